-- What a range, or the want of one, says of the numbers from some number on.
use Rattle.std.proofs.Common.{◌≡◌, ◌≢◌, inl, inr, ℕ, ◌+◌, ◌-◌, ◌<◌, ◌≤◌, List, length, get_or, AllPairs, Contains, Some}
use Rattle.std.proofs.Common.{slice_get, sym, ap, ◌∙◌, arith, rules}
use Rattle.std.proofs.lemmas.Bool.{cases_lt}
use Rattle.std.proofs.lemmas.List.Elements.{All-contains}
use Rattle.std.proofs.lemmas.Option.{same_Some, slice_get-get_or, slice_get_within, get_or_from_slice_get}
use Rattle.virtiofs_map.specs.Mapping.{first_of, count_of, EntryCovers, target_of}
use Rattle.virtiofs_map.specs.Pieces.{value_in, IsMade, IsStretch}
use Rattle.virtiofs_map.specs.RangeParts.{Precedes, HasNumbers}
use Rattle.virtiofs_map.specs.WordParts.{Table, IsAt, HasRanges, Searches}
use Rattle.virtiofs_map.specs.declared.cmdline.IdMap.{IdMap}
use Rattle.virtiofs_map.specs.declared.soft_idmap.entry.Direction.{Direction}
use Rattle.virtiofs_map.specs.declared.soft_idmap.entry.Entry.{Entry}
use Rattle.virtiofs_map.specs.declared.soft_idmap.piece.Outcome.TheVariants.{Kept}
use Rattle.virtiofs_map.specs.declared.soft_idmap.piece.Piece.{Piece}
use Rattle.virtiofs_map.proofs.WordLemmas.{Becomes-itself, Becomes-by_range}

-- ---- ranges that were read

-- what was read at an index is the range there
pub range_at : (specs : List IdMap) (direction : Direction) (table : Table) (at : ℕ) (range : Entry)
    (has : HasRanges specs direction table) → at < table.count → ((other : Entry) → IsAt table at other → range ≡ other)
    → slice_get has.ranges at ≡ Some range
range_at specs direction table at range has inside is =
    let counted : length has.ranges ≡ table.count = has.stand.counted in
    let here : slice_get has.ranges at ≡ Some (get_or has.ranges at range) =
    slice_get-get_or has.ranges at range (omega arith) in
    here ∙ ap (λ (r : Entry). Some r)
    (grind arith)

stored : (ranges : List Entry) (at : ℕ) (range : Entry) → slice_get ranges at ≡ Some range → Contains ranges range
stored ranges at range here = search (rules, slice_get_within, get_or_from_slice_get)

pub numbers_at : (specs : List IdMap) (direction : Direction) (table : Table) (at : ℕ) (range : Entry)
    (has : HasRanges specs direction table) → slice_get has.ranges at ≡ Some range → HasNumbers range
numbers_at specs direction table at range has here =
    All-contains HasNumbers has.ranges range has.are.ordered.numbers (stored has.ranges at range here)

-- ---- numbers that a range covers

pub IsStretch-covered : (specs : List IdMap) (direction : Direction) (table : Table) (n at : ℕ) (range : Entry)
    (piece : Piece) (has : HasRanges specs direction table) → slice_get has.ranges at ≡ Some range → EntryCovers range n
    → IsMade n (first_of range + count_of range - 1) (target_of range) piece → IsStretch specs direction piece
IsStretch-covered specs direction table n at range piece has here covers made =
    let first : piece.first ≡ n = made.first_is in
    let last : piece.last ≡ first_of range + count_of range - 1 = made.last_is in
    let (low, high) = covers in
    record {
      order = omega arith;
      within = omega (arith, (numbers_at specs direction table at range has here).source);
      named = rw (first, last) made.named;
      becomes = λ k from to.
          (let value : value_in piece k ≡ target_of range k = made.value k (omega arith) (omega arith) in
          rw value
          (Becomes-by_range specs direction has.ranges k range has.are.whole (stored has.ranges at range here)
          (omega arith)));
    }

-- ---- numbers that no range covers

-- the range before an index ends at or below a number, so no range before that index covers a greater one
before_covers : (ranges : List Entry) (n end k j : ℕ) (range : Entry) → AllPairs Precedes ranges → end ≤ length ranges
    → ((last : Entry) → slice_get ranges (end - 1) ≡ Some last → first_of last + count_of last ≤ n)
    → n ≤ k → j < end → get_or ranges j range ≡ range → ¬ EntryCovers range k
before_covers ranges n end k j range ordered within ends from below here covers =
    let last : Entry = get_or ranges (end - 1) range in
    let ended : first_of last + count_of last ≤ n =
    ends last (slice_get-get_or ranges (end - 1) range (omega arith)) in
    elim (cases_lt j (end - 1)) [
      | inl earlier ↦
          let precedes : first_of range + count_of range ≤ first_of last =
          rw here at (ordered j (end - 1) range earlier (omega arith)) in
          omega (arith, covers)
      | inr later ↦
          grind arith
    ]

-- the next range begins above the number, and those after it too
after_covers : (ranges : List Entry) (end k j : ℕ) (range : Entry) → AllPairs Precedes ranges
    → ((next : Entry) → slice_get ranges end ≡ Some next → k < first_of next)
    → end ≤ j → j < length ranges → get_or ranges j range ≡ range → ¬ EntryCovers range k
after_covers ranges end k j range ordered above from inside here covers =
    let next = above (get_or ranges end range) (slice_get-get_or ranges end range (omega arith)) in
    elim (cases_lt end j) [
      | inl later ↦
          let precedes : first_of (get_or ranges end range) + count_of (get_or ranges end range) ≤ first_of range =
          rw here at (ordered end j range later inside) in
          omega (arith, next, covers)
      | inr earlier ↦
          grind arith
    ]

pub IsStretch-kept : (specs : List IdMap) (direction : Direction) (table : Table) (n end : ℕ) (piece : Piece)
    (has : HasRanges specs direction table) → end ≤ table.count
    → ((last : Entry) → 1 ≤ end → slice_get has.ranges (end - 1) ≡ Some last → first_of last + count_of last ≤ n)
    → ((next : Entry) → slice_get has.ranges end ≡ Some next → piece.last < first_of next)
    → piece.first ≡ n → n ≤ piece.last → piece.last ≤ 4294967295 → piece.becomes ≡ Kept
    → IsStretch specs direction piece
IsStretch-kept specs direction table n end piece has inside ends next first order within kept = record {
  order = omega arith;
  within = within;
  named = rw kept tt;
  becomes = λ k from to. rw kept (Becomes-itself specs direction has.ranges k has.are.whole (uncovered k from to));
} where
  counted : length has.ranges ≡ table.count
  counted = has.stand.counted

  uncovered : (k : ℕ) → piece.first ≤ k → k ≤ piece.last → (range : Entry) → Contains has.ranges range
      → ¬ EntryCovers range k
  uncovered k from to range (j, below, here) covers =
      elim (cases_lt j end) [
        | inl before ↦ before_covers has.ranges n end k j range has.are.ordered.ordered (omega (arith, counted))
            (λ last is. ends last (omega arith) is) (omega arith) before here covers
        | inr above ↦ after_covers has.ranges end k j range has.are.ordered.ordered
            (λ other is. omega (arith, next other is)) above below here covers
      ]

-- there is no range from that index on
pub no_next : (specs : List IdMap) (direction : Direction) (table : Table) (end : ℕ) (range : Entry)
    (has : HasRanges specs direction table) → table.count ≤ end → slice_get has.ranges end ≢ Some range
no_next specs direction table end range has beyond here = search (rules, slice_get_within)

-- no range covers a number below the first range
pub IsStretch-below : (specs : List IdMap) (direction : Direction) (table : Table) (n index : ℕ) (range : Entry)
    (piece : Piece) (has : HasRanges specs direction table) → Searches table n index (index + 1)
    → slice_get has.ranges index ≡ Some range → n < first_of range → piece.last < first_of range
    → piece.first ≡ n → n ≤ piece.last → piece.last ≤ 4294967295 → piece.becomes ≡ Kept
    → IsStretch specs direction piece
IsStretch-below specs direction table n index range piece has searches here above last first order within kept =
    IsStretch-kept specs direction table n 0 piece has (omega arith) (λ before some is. absurd (omega arith))
    (λ next is. rw (same_Some _ _ (sym (rw at_first at here) ∙ is)) at last) first order within kept where
      at_first : index ≡ 0
      at_first =
          elim (cases_lt 0 index) [
            | inl after ↦
                let begins : first_of range ≤ n =
                rw (get_or_from_slice_get has.ranges index range range here) at
                ((searches has.ranges has.are.ordered has.stand).begins range after) in
                absurd (omega arith)
            | inr none ↦ omega arith
          ]

-- a range that begins at or below a number, and does not cover it, ends at or below it
pub ends_before : (range : Entry) (n : ℕ) → first_of range ≤ n → (¬ EntryCovers range n)
    → first_of range + count_of range ≤ n
ends_before range n begins beyond = search (rules, cases_lt)

-- nor one after the range at which the search ended, and below the next one
pub IsStretch-after : (specs : List IdMap) (direction : Direction) (table : Table) (n index : ℕ) (range : Entry)
    (piece : Piece) (has : HasRanges specs direction table) → index < table.count
    → slice_get has.ranges index ≡ Some range → first_of range ≤ n → (¬ EntryCovers range n)
    → ((next : Entry) → slice_get has.ranges (index + 1) ≡ Some next → piece.last < first_of next)
    → piece.first ≡ n → n ≤ piece.last → piece.last ≤ 4294967295 → piece.becomes ≡ Kept
    → IsStretch specs direction piece
IsStretch-after specs direction table n index range piece has inside here begins beyond next first order within kept =
    let back : index + 1 - 1 ≡ index = omega arith in
    IsStretch-kept specs direction table n (index + 1) piece has (omega arith)
    (grind (arith, same_Some, ends_before)) next first
    order within kept

-- the next range begins above the number
pub next_above : (specs : List IdMap) (direction : Direction) (table : Table) (n index : ℕ) (range : Entry)
    (has : HasRanges specs direction table) → Searches table n index (index + 1)
    → slice_get has.ranges (index + 1) ≡ Some range → n < first_of range
next_above specs direction table n index range has searches here =
    rw (get_or_from_slice_get has.ranges (index + 1) range range here) at
    ((searches has.ranges has.are.ordered has.stand).above (index + 1) range (omega arith)
    (slice_get_within has.ranges (index + 1) range here))
