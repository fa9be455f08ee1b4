-- How often the guest reaches an id of the host.
use Rattle.std.proofs.Common.{◌≡◌, inl, inr, ℕ, ◌+◌, ◌-◌, ◌<◌, ◌≤◌, min, true, false, List, [], ◌∷◌, ◌++◌, Some, None}
use Rattle.std.proofs.Common.{sym, ap, ◌∙◌, arith, rules}
use Rattle.std.proofs.lemmas.Bool.{cases_lt, cases_order}
use Rattle.std.proofs.lemmas.List.Sums.{sum_by_push}
use Rattle.std.proofs.lemmas.Option.{same_Some}
use Rattle.virtiofs_id_audit.specs.IdAudit.{GoesTo, Has}
use Rattle.virtiofs_id_audit.specs.IdAuditParts.{has_times, times, CountsGuests, AreImages}
use Rattle.virtiofs_id_audit.specs.declared.spans.Span.{Span}
use Rattle.virtiofs_map.specs.Build.{Accepted}
use Rattle.virtiofs_map.specs.Pieces.{is_one_to_one, value_in, IsPiece, PiecesLeft, GivesPiece}
use Rattle.virtiofs_map.specs.declared.cmdline.IdMap.{IdMap}
use Rattle.virtiofs_map.specs.declared.soft_idmap.entry.Direction.TheVariants.{GuestToHost}
use Rattle.virtiofs_map.specs.declared.soft_idmap.piece.Piece.{Piece}
use Rattle.virtiofs_id_audit.proofs.HeldLemmas.{has_or_not}
use Rattle.virtiofs_id_audit.proofs.PieceLemmas.{value-each, value-not_each, value-forbidden}
use Rattle.virtiofs_map.proofs.ForCallers.{lookup_one_value}

-- ---- counts of two stretches of ids are added

-- the guest's ids from low up to high: one that goes there, and two
abbrev One : List IdMap → ℕ → ℕ → ℕ → Type 0
One specs low high host = (n : ℕ) × (low ≤ n) × (n < high) × GoesTo specs n host

abbrev Two : List IdMap → ℕ → ℕ → ℕ → Type 0
Two specs low high host = (n m : ℕ) × (low ≤ n) × (n < m) × (m < high) × GoesTo specs n host × GoesTo specs m host

pub CountsGuests-append : (specs : List IdMap) (low mid high host a b : ℕ) → low ≤ mid → mid ≤ high
    → CountsGuests specs low mid host a → CountsGuests specs mid high host b → CountsGuests specs low high host (a + b)
CountsGuests-append specs low mid high host a b up over first second =
    record { one = (one_of, of_one); two = (two_of, of_two) } where
      in_first : One specs low mid host → One specs low high host
      in_first (n, from, below, goes) = (n, from, omega arith, goes)

      in_second : One specs mid high host → One specs low high host
      in_second (n, from, below, goes) = (n, omega arith, below, goes)

      one_of : 1 ≤ a + b → One specs low high host
      one_of some = search (rules, cases_lt, in_second, in_first)

      of_one : One specs low high host → 1 ≤ a + b
      of_one (n, from, below, goes) = search (rules, cases_lt)

      both : One specs low mid host → One specs mid high host → Two specs low high host
      both (n, from, below, goes) (m, from', below', goes') = (n, m, from, omega arith, below', goes, goes')

      two_first : Two specs low mid host → Two specs low high host
      two_first (n, m, from, less, below, goes, goes') = (n, m, from, less, omega arith, goes, goes')

      two_second : Two specs mid high host → Two specs low high host
      two_second (n, m, from, less, below, goes, goes') = (n, m, omega arith, less, below, goes, goes')

      two_of : 2 ≤ a + b → Two specs low high host
      two_of some = search (rules, cases_order, both, two_second, two_first)

      of_two : Two specs low high host → 2 ≤ a + b
      of_two (n, m, from, less, below, goes, goes') =
          elim (cases_lt n mid) [
            | inl before ↦ elim (cases_lt m mid) [
              | inl early ↦ omega (arith, first.two.1 (n, m, from, less, early, goes, goes'))
              | inr late ↦ omega (arith, first.one.1 (n, from, before, goes), second.one.1 (m, late, below, goes'))
            ]
            | inr after ↦ omega (arith, second.two.1 (n, m, after, less, below, goes, goes'))
          ]

-- none of them goes to the host
none_goes : (specs : List IdMap) (low high host : ℕ) → ((n : ℕ) → low ≤ n → n < high → ¬ GoesTo specs n host)
    → CountsGuests specs low high host 0
none_goes specs low high host none = record {
  one = (λ some. absurd (omega arith), λ (n, from, below, goes). absurd (none n from below goes));
  two = (
    λ some. absurd (omega arith),
    λ (n, m, from, less, below, goes, goes'). absurd (none n from (omega arith) goes),
  );
}

-- ---- one piece more

pub times-push : (spans : List Span) (span : Span) (host : ℕ)
    → times (spans ++ span ∷ []) host ≡ times spans host + has_times host span
times-push spans span host = sum_by_push (has_times host) spans span

module _ (specs : List IdMap) (piece : Piece) (low host : ℕ) (spans : List Span) (accepted : Accepted specs)
    (is : IsPiece specs GuestToHost piece) (up : low ≤ piece.first)
    (before : CountsGuests specs low piece.first host (times spans host)) where
  -- its ids become what it says
  becomes_in : (n : ℕ) → piece.first ≤ n → n < piece.last + 1 → GoesTo specs n host → value_in piece n ≡ Some host
  becomes_in n from below goes =
      lookup_one_value specs accepted GuestToHost n _ _ (is.becomes n from (omega arith)) goes.becomes

  goes_in : (n : ℕ) → piece.first ≤ n → n ≤ piece.last → n < 4294967295 → value_in piece n ≡ Some host
      → GoesTo specs n host
  goes_in n from to is_id value = record { is_id = is_id; becomes = rw value at (is.becomes n from to) }

  with_more : (more : List Span) (added : ℕ) → times more host ≡ times spans host + added
      → CountsGuests specs piece.first (piece.last + 1) host added
      → CountsGuests specs low (piece.last + 1) host (times more host)
  with_more more added total counts =
      rw total
      (CountsGuests-append specs low piece.first (piece.last + 1) host (times spans host) added up (omega arith)
      before counts)

  none_more : (more : List Span) → times more host ≡ times spans host
      → ((n : ℕ) → piece.first ≤ n → n < piece.last + 1 → ¬ GoesTo specs n host)
      → CountsGuests specs low (piece.last + 1) host (times more host)
  none_more more same none = with_more more 0 (omega arith) (none_goes specs piece.first (piece.last + 1) host none)

  pub counts-forbidden : None ≡ value_in piece piece.first
      → CountsGuests specs low (piece.last + 1) host (times spans host)
  counts-forbidden none = none_more spans (omega arith) (λ n from below goes.
      (let both : Some host ≡ None = sym (becomes_in n from below goes) ∙ value-forbidden piece n none in
      absurd (cc)))

  -- they become ids one after the other
  pub counts-each : (to last : ℕ) (span : Span) → is_one_to_one piece.becomes ≡ true
      → Some to ≡ value_in piece piece.first → last ≡ min piece.last 4294967294 → piece.first ≤ last → span.first ≡ to
      → span.last ≡ to + (last - piece.first)
      → CountsGuests specs low (piece.last + 1) host (times (spans ++ span ∷ []) host)
  counts-each to last span each start least order first_is last_is =
      elim (has_or_not span host) [
        | inl (once, has) ↦
            let n = piece.first + (host - to) in
            let value : value_in piece n ≡ Some host = value-each piece to n each start (omega arith)
            ∙ ap (λ (k : ℕ). Some k) (omega (arith, has)) in
            let goes = goes_in n (omega arith) (omega (arith, has)) (omega (arith, has)) value in
            with_more (spans ++ span ∷ []) 1 (omega (arith, times-push spans span host)) (record {
              one = (λ _. (n, omega arith, omega (arith, has), goes), λ _. omega arith);
              two = (
                λ some. absurd (omega arith),
                λ (n, m, from, less, below, goes, goes').
                    omega (arith, host_of n from (omega arith) goes, host_of m (omega arith) below goes'),
              );
            })
        | inr (never, not) ↦
            none_more (spans ++ span ∷ []) (omega (arith, times-push spans span host))
            (λ n from below goes. not (omega (arith, host_of n from below goes, goes.is_id)))
      ] where
        host_of : (n : ℕ) → piece.first ≤ n → n < piece.last + 1 → GoesTo specs n host → host ≡ to + (n - piece.first)
        host_of n from below goes =
            same_Some _ _ (sym (becomes_in n from below goes) ∙ value-each piece to n each start from)

  -- they all become one id: the first one, and where there are two, the second too
  module _ (to : ℕ) (span : Span) (all : is_one_to_one piece.becomes ≡ false)
      (start : Some to ≡ value_in piece piece.first) (first_is : span.first ≡ to) (last_is : span.last ≡ to) where
    two : piece.first < piece.last
    two = (value-not_each piece to all start is.named).0

    value : (n : ℕ) → value_in piece n ≡ Some to
    value n = (value-not_each piece to all start is.named).1 n

    goes_there : Has span host → (n : ℕ) → piece.first ≤ n → n ≤ piece.last → n < 4294967295 → GoesTo specs n host
    goes_there has n from below is_id =
        goes_in n from below is_id (value n ∙ ap (λ (k : ℕ). Some k) (omega (arith, has)))

    none_there : ¬ Has span host → (n : ℕ) → piece.first ≤ n → n < piece.last + 1 → ¬ GoesTo specs n host
    none_there not n from below goes =
        not (omega (arith, same_Some host to (sym (becomes_in n from below goes) ∙ value n)))

    pub counts-one : min piece.last 4294967294 ≤ piece.first → piece.first ≤ min piece.last 4294967294
        → CountsGuests specs low (piece.last + 1) host (times (spans ++ span ∷ []) host)
    counts-one last order =
        let pushed = times-push spans span host in
        elim (has_or_not span host) [
          | inl (once, has) ↦
              let goes = goes_there has piece.first (omega arith) (omega arith) (omega (arith, two)) in
              search (rules, with_more, two)
          | inr (never, not) ↦ none_more (spans ++ span ∷ []) (omega arith) (none_there not)
        ]

    pub counts-two : piece.first < min piece.last 4294967294
        → CountsGuests specs low (piece.last + 1) host (times ((spans ++ span ∷ []) ++ span ∷ []) host)
    counts-two last =
        let once_more = times-push spans span host in
        let twice = times-push (spans ++ span ∷ []) span host in
        elim (has_or_not span host) [
          | inl (once, has) ↦
              let goes = goes_there has piece.first (omega arith) (omega arith) (omega arith) in
              let goes' = goes_there has (piece.first + 1) (omega arith) (omega arith) (omega arith) in
              search (rules, with_more, two)
          | inr (never, not) ↦ none_more ((spans ++ span ∷ []) ++ span ∷ []) (omega arith) (none_there not)
        ]

-- ---- the pieces so far

-- the spans count what the pieces so far become
pub record CountsSoFar (specs : List IdMap) (spans : List Span) (left : PiecesLeft) : Type 0 where
  pub specs_are : left.specs ≡ specs
  pub direction_is : left.direction ≡ GuestToHost
  pub counts : (host : ℕ) → CountsGuests specs 0 left.next host (times spans host)

pub piece_given : (specs : List IdMap) (spans : List Span) (left after : PiecesLeft) (piece : Piece)
    → CountsSoFar specs spans left → GivesPiece left (Some piece) after → IsPiece specs GuestToHost piece
piece_given specs spans left after piece so_far gives = rw (so_far.specs_are, so_far.direction_is) at gives.0

pub CountsSoFar-more : (specs : List IdMap) (spans more : List Span) (left after : PiecesLeft) (piece : Piece)
    → CountsSoFar specs spans left → GivesPiece left (Some piece) after
    → ((host : ℕ) → CountsGuests specs 0 piece.first host (times spans host)
    → CountsGuests specs 0 (piece.last + 1) host (times more host)) → CountsSoFar specs more after
CountsSoFar-more specs spans more left after piece so_far gives step = search rules

pub AreImages-all : (specs : List IdMap) (spans : List Span) (left after : PiecesLeft)
    → CountsSoFar specs spans left → GivesPiece left None after → AreImages specs spans
AreImages-all specs spans left after so_far gives host = rw gives.0 at (so_far.counts host)
