-- The pieces of a map: each as long as it can be, and no more of them than twice as many as specifications act, and
-- one.
use Rattle.std.proofs.Common.{if◌then◌else◌, ◌≡◌, inl, inr, ◌⊎◌, ℕ, ◌+◌, ◌*◌, ◌<◌, ◌≤◌, nat_lt, List, [], ◌∷◌, length}
use Rattle.std.proofs.Common.{Contains, Option, Some, None, IsSomeAnd, refl, ap, ◌∙◌, arith, rules, ◌-◌}
use Rattle.std.specs.Iterator.{Yields, Drains}
use Rattle.std.specs.List.{AllByRecursion, sum_by}
use Rattle.std.proofs.lemmas.Bool.{cases_Bool, cases_lt}
use Rattle.std.proofs.lemmas.Bool.Decides.{nat_tests}
use Rattle.std.proofs.lemmas.List.Elements.{All-contains, All-from_recursion}
use Rattle.std.proofs.lemmas.List.Sums.{sum_by-cons}
use Rattle.virtiofs_map.specs.Build.{Accepted}
use Rattle.virtiofs_map.specs.LookupSteps.{acting, covers_some}
use Rattle.virtiofs_map.specs.Mapping.{entry_of, first_of, count_of, target_of, EntryCovers, Covers, Becomes}
use Rattle.virtiofs_map.specs.PieceParts.{CanJoin, Joins}
use Rattle.virtiofs_map.specs.Pieces.{value_by, value_in, AreOne, IsPiece, FollowFrom, ArePieces, PiecesLeft}
use Rattle.virtiofs_map.specs.Pieces.{GivesPiece, IsStretch}
use Rattle.virtiofs_map.specs.declared.cmdline.IdMap.{IdMap}
use Rattle.virtiofs_map.specs.declared.soft_idmap.entry.Direction.{Direction}
use Rattle.virtiofs_map.specs.declared.soft_idmap.entry.Entry.{Entry}
use Rattle.virtiofs_map.specs.declared.soft_idmap.piece.Outcome.{Outcome}
use Rattle.virtiofs_map.specs.declared.soft_idmap.piece.Outcome.TheVariants.{Kept, OneToOne, AllToOne, Forbidden}
use Rattle.virtiofs_map.specs.declared.soft_idmap.piece.Piece.{Piece}
use Rattle.virtiofs_map.proofs.MappingLawLemmas.{HasOneValue-accepted}
use Rattle.virtiofs_map.proofs.WordLemmas.{found_entry}
use Rattle.virtiofs_map.specs.declared.soft_idmap.entry.Entry.TheVariants.{Map, Squash, Fail}

-- ---- the longest piece

pub IsStretch-join : (specs : List IdMap) (direction : Direction) (piece more longer : Piece)
    → IsStretch specs direction piece → IsStretch specs direction more → more.first ≡ piece.last + 1
    → Joins piece more longer → IsStretch specs direction longer
IsStretch-join specs direction piece more longer stretch more_stretch follows joins = search (rules, cases_lt)

-- where the piece cannot have the number after it, no outcome has
pub IsPiece-longest : (specs : List IdMap) (direction : Direction) (piece more : Piece) → Accepted specs
    → IsStretch specs direction piece → IsStretch specs direction more → more.first ≡ piece.last + 1
    → ¬ CanJoin piece more → IsPiece specs direction piece
IsPiece-longest specs direction piece more accepted stretch more_stretch follows cannot = record {
  order = stretch.order;
  within = stretch.within;
  named = stretch.named;
  becomes = stretch.becomes;
  longest = λ below (outcome, by). cannot (
    outcome,
    (λ n low high. HasOneValue-accepted specs accepted direction n _ _ (by n low (omega arith))
        (stretch.becomes n low high)),
    HasOneValue-accepted specs accepted direction more.first _ _
        (by more.first (omega (arith, stretch.order)) (omega arith))
        (more_stretch.becomes more.first (omega arith) more_stretch.order),
  );
}

-- ---- where outcomes change

-- an end, the first number of a range or the one after its last, is above a number
above : ℕ → ℕ → ℕ
above n end = if nat_lt n end then 1 else 0

-- how many ends of a range are
ends : ℕ → Option Entry → ℕ
ends n None = 0
ends n (Some entry) =
    if nat_lt 0 (count_of entry) then above n (first_of entry) + above n (first_of entry + count_of entry) else 0

-- and how many of all specifications
ends_above : Direction → ℕ → List IdMap → ℕ
ends_above direction n specs = sum_by (λ spec. ends n (entry_of spec direction)) specs

-- a range that acts has two
two_ends : (n : ℕ) (o : Option Entry) → ends n o ≤ 2 * (if covers_some o then 1 else 0)
unfolding ends above
two_ends n o = grind arith

ends_above-acting : (direction : Direction) (n : ℕ) (specs : List IdMap)
    → ends_above direction n specs ≤ 2 * acting specs direction
unfolding ends_above
ends_above-acting direction n [] = omega arith
ends_above-acting direction n (spec ∷ specs) =
    search (rules, ends_above-acting direction n specs, two_ends, sum_by-cons, ends)

-- no end of the range stands above a number but not above a greater one
abbrev IsSteady : ℕ → ℕ → Option Entry → Type 0
IsSteady n m o = (entry : Entry) → o ≡ Some entry → 1 ≤ count_of entry
    → (n < first_of entry → m < first_of entry)
    × (n < first_of entry + count_of entry → m < first_of entry + count_of entry)

end_fewer : (n m end : ℕ) → n ≤ m
    → (above m end + 1 ≤ above n end) ⊎ ((above m end ≡ above n end) × (n < end → m < end))
unfolding above
end_fewer n m end up = search (rules, cases_lt, nat_tests)

-- of two sums whose parts are no greater than those of the other, one is less, or both parts are the same
sum_fewer : {P Q : Type 0} (a b c d : ℕ) → (a + 1 ≤ b) ⊎ ((a ≡ b) × P) → (c + 1 ≤ d) ⊎ ((c ≡ d) × Q)
    → (a + c + 1 ≤ b + d) ⊎ ((a + c ≡ b + d) × (P × Q))
sum_fewer a b c d e h = grind arith

fewer_or_steady : (n m : ℕ) (o : Option Entry) → n ≤ m
    → (ends m o + 1 ≤ ends n o) ⊎ ((ends m o ≡ ends n o) × IsSteady n m o)
unfolding ends
fewer_or_steady n m o up = grind (arith, cases_Bool, nat_lt, sum_fewer, end_fewer, nat_tests)

all_fewer_or_steady : (direction : Direction) (n m : ℕ) (specs : List IdMap) → n ≤ m
    → (ends_above direction m specs + 1 ≤ ends_above direction n specs)
    ⊎ ((ends_above direction m specs ≡ ends_above direction n specs)
    × AllByRecursion (λ spec. IsSteady n m (entry_of spec direction)) specs)
unfolding ends_above
all_fewer_or_steady direction n m [] up = inr (refl, tt)
all_fewer_or_steady direction n m (spec ∷ specs) up =
    rw (
      sum_by-cons (λ s. ends m (entry_of s direction)) spec specs,
      sum_by-cons (λ s. ends n (entry_of s direction)) spec specs,
    )
    (grind (arith, all_fewer_or_steady direction n m specs up, sum_fewer, fewer_or_steady))

-- ---- numbers between which no range begins or ends are one piece

-- the numbers from n on, where the range covers them
outcome_from : Entry → ℕ → Outcome
outcome_from (Map first to count) n = OneToOne (to + (n - first))
outcome_from (Squash first to count) n = AllToOne to
outcome_from (Fail first count) n = Forbidden

value_from : (entry : Entry) (n k : ℕ) → first_of entry ≤ n → n ≤ k
    → target_of entry k ≡ value_by (outcome_from entry n) n k
unfolding outcome_from
value_from entry n k low from = grind arith

-- an entry that there is covers the number, and makes that of it
maps_by : (o : Option Entry) (entry : Entry) (k : ℕ) (value : Option ℕ) → o ≡ Some entry → EntryCovers entry k
    → target_of entry k ≡ value → IsSomeAnd o (λ e. EntryCovers e k × (target_of e k ≡ value))
maps_by o entry k value is covers target = rw is (covers, target)

AreOne-steady : (specs : List IdMap) (direction : Direction) (n m : ℕ) (value : Option ℕ) → n ≤ m
    → Becomes specs direction n value → ((spec : IdMap) → Contains specs spec → IsSteady n m (entry_of spec direction))
    → AreOne specs direction n m
AreOne-steady specs direction n m value up (inl (spec, listed, maps)) steady =
    let found =
    found_entry (entry_of spec direction) (λ entry. EntryCovers entry n × (target_of entry n ≡ value)) maps in
    let entry : Entry = found.entry in
    let (low, high) = found.holds.0 in
    let later = (steady spec listed entry found.is (omega (arith, low, high))).1 high in (
      outcome_from entry n,
      λ k from to. inl (grind (arith, maps_by, outcome_from, value_from)),
    )
AreOne-steady specs direction n m value up (inr (none, same)) steady =
    (Kept, λ k from to. inr (uncovered k from to, refl)) where
      uncovered : (k : ℕ) → n ≤ k → k ≤ m → (spec : IdMap) → Contains specs spec → ¬ Covers spec direction k
      uncovered k from to spec listed covers =
          let found = found_entry (entry_of spec direction) (λ entry. EntryCovers entry k) covers in
          let entry : Entry = found.entry in
          let (low, high) = found.holds in
          elim (cases_lt n (first_of entry)) [
            | inl before ↦
                omega (arith, low, (steady spec listed entry found.is (omega (arith, low, high))).0 before)
            | inr after ↦ none spec listed (rw found.is (omega (arith, high)))
          ]

-- so after a piece there are fewer ends
fewer_after : (specs : List IdMap) (direction : Direction) (piece : Piece) → IsPiece specs direction piece
    → piece.last < 4294967295 → ends_above direction (piece.last + 1) specs + 1 ≤ ends_above direction piece.first specs
fewer_after specs direction piece is below =
    let order : piece.first ≤ piece.last = is.order in
    elim (all_fewer_or_steady direction piece.first (piece.last + 1) specs (omega arith)) [
      | inl less ↦ less
      | inr (same, steady) ↦ absurd
          (is.longest below
          (AreOne-steady specs direction piece.first (piece.last + 1) (value_in piece piece.first) (omega arith)
          (is.becomes piece.first (omega arith) order)
          (grind (arith, All-contains, IsSteady, All-from_recursion))))
    ]

few_from : (specs : List IdMap) (direction : Direction) (next : ℕ) (pieces : List Piece) → FollowFrom next pieces
    → AllByRecursion (IsPiece specs direction) pieces → length pieces ≤ ends_above direction next specs + 1
few_from specs direction next [] follow each = omega arith
few_from specs direction next (piece ∷ pieces) (begins, follow) (is, each) =
    elim (cases_lt piece.last 4294967295) [
      | inl below ↦
          grind (arith, few_from specs direction (piece.last + 1) pieces follow each, ends_above, fewer_after)
      | inr last ↦ omega (arith, ended pieces follow each last)
    ] where
      ended : (ps : List Piece) → FollowFrom (piece.last + 1) ps → AllByRecursion (IsPiece specs direction) ps
          → 4294967295 ≤ piece.last → length ps ≡ 0
      ended [] follow each last = refl
      ended (p ∷ ps) (begins, follow) (is, each) last = absurd (omega (arith, begins, is.order, is.within))

-- ---- what an iterator gives in all

given : (left : PiecesLeft) (pieces : List Piece) (after : PiecesLeft) → Yields GivesPiece left pieces after
    → after.next ≡ 4294967296 → FollowFrom left.next pieces × AllByRecursion (IsPiece left.specs left.direction) pieces
given left [] after same end = (ap (λ (l : PiecesLeft). l.next) same ∙ end, tt)
given left (piece ∷ pieces) after (more, (is, begins, leaves), rest) end =
    grind (arith, given more pieces after rest end)

pub ArePieces-drained : (specs : List IdMap) (direction : Direction) (left : PiecesLeft) (pieces : List Piece)
    → left ≡ record { specs = specs; direction = direction; next = 0 } → Drains GivesPiece left pieces
    → ArePieces specs direction pieces
ArePieces-drained specs direction left pieces is (end, (after, yields, (last, same))) =
    let all = rw is at (given left pieces after yields last) in
    record {
      follow = all.0;
      each = All-from_recursion (IsPiece specs direction) pieces all.1;
      few = omega (arith, few_from specs direction 0 pieces all.0 all.1, ends_above-acting direction 0 specs);
    }
