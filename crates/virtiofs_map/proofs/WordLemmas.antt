-- What the words of a map say of a number, by a search of its ranges.
use Rattle.std.proofs.Common.{◌≡◌, inl, ℕ, List, Contains, Option, Some, IsSomeAnd, refl, rules, arith, inr, suc, zero, IsPermutation}
use Rattle.std.proofs.Common.{◌+◌, ◌/◌, ◌^◌, ◌<◌, ◌≤◌, length, get_or, AllPairs, slice_get, pow-suc, [], ◌-◌}
use Rattle.std.proofs.Common.{slice_index, All, None, min, subst, sym, ◌∙◌}
use Rattle.std.proofs.lemmas.List.Elements.{Contains-get_or}
use Rattle.std.proofs.lemmas.List.Sorted.{Contains-permutation, IsPermutation-sym, length_permutation}
use Rattle.virtiofs_map.specs.Mapping.{entry_of, EntryCovers, target_of, Becomes, first_of}
use Rattle.virtiofs_map.specs.RangeParts.{entries, Precedes, Searched, HasDigitsFor, HasNumbers, AreRanges}
use Rattle.virtiofs_map.specs.declared.cmdline.IdMap.{IdMap}
use Rattle.virtiofs_map.specs.declared.soft_idmap.entry.Direction.{Direction}
use Rattle.virtiofs_map.specs.declared.soft_idmap.entry.Entry.{Entry}
use Rattle.std.proofs.lemmas.Bool.{cases_order, cases_lt}
use Rattle.std.proofs.lemmas.Option.{slice_get-get_or, get_or_from_slice_get, same_Some}
use Rattle.virtiofs_map.specs.LookupSteps.{halvings_within, binary_digits, acting}
use Rattle.virtiofs_map.specs.Steps.{count_after, CountsBetween}
use Rattle.virtiofs_map.specs.Build.{HasTarget, Accepted}
use Rattle.virtiofs_map.specs.Image.{IsImage}
use Rattle.virtiofs_map.specs.ImageAnswer.{SaysValue, SaysIn, SaysLeadsBack}
use Rattle.virtiofs_map.specs.MappingLaws.{IsMappedBothWays}
use Rattle.virtiofs_map.specs.WordParts.{Table, IsAt, HasRanges, words_lent, Searches, SaysEntry}
use Rattle.virtiofs_map.specs.declared.soft_idmap.entry.Entry.TheVariants.{Fail}
use Rattle.virtiofs_map.specs.declared.soft_idmap.row.Answer.{Answer}
use Rattle.virtiofs_map.proofs.MappingLawLemmas.{HasOneValue-accepted, LeadsBack-mapped}
use Rattle.virtiofs_map.proofs.SortedLemmas.{entries-from, entries-each, length-entries}
use Rattle.virtiofs_map.specs.declared.soft_idmap.row.Answer.TheVariants as answers

-- there is an entry of which this holds
pub record Found (o : Option Entry) (P : Entry → Type 0) : Type 0 where
  pub entry : Entry
  pub is : o ≡ Some entry
  pub holds : P entry

pub found_entry : (o : Option Entry) (P : Entry → Type 0) → IsSomeAnd o P → Found o P
found_entry o P h = grind arith

-- no range covers the number, so no specification does
pub Becomes-itself : (specs : List IdMap) (direction : Direction) (ranges : List Entry) (n : ℕ)
    → IsPermutation (entries specs direction) ranges
    → ((range : Entry) → Contains ranges range → ¬ EntryCovers range n) → Becomes specs direction n (Some n)
Becomes-itself specs direction ranges n whole none =
    inr (
      (λ spec listed covers.
          let found = found_entry (entry_of spec direction) (λ entry. EntryCovers entry n) covers in
          none found.entry
          (Contains-permutation (entries specs direction) ranges found.entry whole
          (entries-each specs direction spec found.entry listed found.is (omega (arith, found.holds)))) found.holds),
      refl,
    )

-- a range that covers it is that of a specification
pub Becomes-by_range : (specs : List IdMap) (direction : Direction) (ranges : List Entry) (n : ℕ) (range : Entry)
    → IsPermutation (entries specs direction) ranges → Contains ranges range → EntryCovers range n
    → Becomes specs direction n (target_of range n)
Becomes-by_range specs direction ranges n range whole stored covers =
    let back = IsPermutation-sym (entries specs direction) ranges whole in
    let (spec, listed, is, _) = entries-from specs direction range
    (Contains-permutation ranges (entries specs direction) range back stored) in
    inl (spec, listed, rw is (covers, refl))

-- ---- digits

below_halvings : (times m : ℕ) → m ≤ times → m < 2 ^ halvings_within times m
unfolding halvings_within
below_halvings zero m h = omega arith
below_halvings (suc times) zero h = omega arith
below_halvings (suc times) (suc m) h = grind (arith, below_halvings times (suc m / 2) (omega arith), pow-suc)

below_digits : (m : ℕ) → m < 2 ^ binary_digits m
unfolding binary_digits
below_digits m = below_halvings m m (omega arith)

pub HasDigitsFor-start : (left taken m : ℕ) → left ≤ m → taken ≡ 0 → HasDigitsFor left taken (binary_digits m)
HasDigitsFor-start left taken m within none = record {
  digits = binary_digits m;
  room = omega (arith, below_digits m);
  spent = omega arith;
}

-- a step leaves half at most, and takes a digit
less_by_a_digit : (left rest taken more digits most : ℕ) → more ≡ count_after taken 1 → 1 ≤ left → rest ≤ left / 2
    → left < 2 ^ digits → taken + digits ≤ most → HasDigitsFor rest more most
less_by_a_digit left rest taken more zero most counted some half room spent = absurd (omega arith)
less_by_a_digit left rest taken more (suc digits) most counted some half room spent = grind arith

pub HasDigitsFor-less : (left rest taken more most : ℕ) → HasDigitsFor left taken most → more ≡ count_after taken 1
    → 1 ≤ left → rest ≤ left / 2 → HasDigitsFor rest more most
HasDigitsFor-less left rest taken more most so_far counted some half = search (rules, less_by_a_digit)

-- ---- what is found

pub Searched-start : (ranges : List Entry) (n end : ℕ) → 1 ≤ end → end ≡ length ranges → Searched ranges n 0 end
Searched-start ranges n end some whole = search rules

pub Searched-right : (ranges : List Entry) (n index end middle : ℕ) (range : Entry)
    → Searched ranges n index end → middle < end → slice_get ranges middle ≡ Some range → first_of range ≤ n
    → Searched ranges n middle end
Searched-right ranges n index end middle range searched below here begins = search (rules, get_or_from_slice_get)

-- those after a range that begins above n begin above it too
above_from : (ranges : List Entry) (n middle k : ℕ) (range d : Entry) → AllPairs Precedes ranges
    → slice_get ranges middle ≡ Some range → n < first_of range → middle ≤ k → k < length ranges
    → n < first_of (get_or ranges k d)
above_from ranges n middle k range d ordered here begins from below =
    let is : get_or ranges middle d ≡ range = get_or_from_slice_get ranges middle range d here in
    elim (cases_lt middle k) [
      | inl before ↦
          let precedes : Precedes range (get_or ranges k d) = rw is at (ordered middle k d before below) in
          omega arith
      | inr after ↦ (let same : k ≡ middle = omega arith in rw (same, is) begins)
    ]

pub Searched-left : (ranges : List Entry) (n index end middle wider : ℕ) (range : Entry)
    → AllPairs Precedes ranges → Searched ranges n index end → index < middle → slice_get ranges middle ≡ Some range
    → n < first_of range → middle ≤ wider → wider ≤ length ranges → Searched ranges n index wider
Searched-left ranges n index end middle wider range ordered searched after here begins more within = record {
  order = omega arith;
  within = within;
  begins = searched.begins;
  above = λ k d from below. above_from ranges n middle k range d ordered here begins (omega arith) below;
}

-- a range that covers n is the one that was found
pub Searched-finds : (ranges : List Entry) (n index : ℕ) (range : Entry) → AllPairs Precedes ranges
    → Searched ranges n index (index + 1) → Contains ranges range → EntryCovers range n
    → slice_get ranges index ≡ Some range
Searched-finds ranges n index range ordered searched (k, below, here) covers =
    elim (cases_order k index) [
      | inl same ↦ grind (arith, slice_get-get_or)
      | inr (inl before) ↦
          let precedes : Precedes range (get_or ranges index range) = rw here at (ordered k index range before inside) in
          absurd (omega (arith, covers, searched.begins range (omega arith)))
      | inr (inr after) ↦
          grind arith
    ] where
      inside : index < length ranges
      inside = omega (arith, searched.within)

-- any range, where a list has none
no_range : Entry
no_range = Fail 0 0

-- ---- the search

pub Searches-start : (table : Table) (n index end : ℕ) → index ≡ 0 → end ≡ table.count → 1 ≤ end
    → Searches table n index end
Searches-start table n index end none whole some ranges are stand = search (rules, Searched-start)

searches_right : (table : Table) (n index end middle : ℕ)
    → Searches table n index end → end ≤ table.count → middle < end
    → slice_index table.words (table.firsts + middle) ≤ n
    → Searches table n middle end
searches_right table n index end middle searches within below begins ranges are stand =
    let counted : length ranges ≡ table.count = stand.counted in
    let range : Entry = get_or ranges middle no_range in
    let here : slice_get ranges middle ≡ Some range = slice_get-get_or ranges middle no_range (omega arith) in
    let at : IsAt table middle range = stand.each middle range here in
    let first : slice_index table.words (table.firsts + middle) ≡ first_of range = at.first in
    Searched-right ranges n index end middle range (searches ranges are stand) below here (omega arith)

searches_left : (table : Table) (n index end middle wider : ℕ)
    → Searches table n index end → index < middle → n < slice_index table.words (table.firsts + middle)
    → middle < table.count → middle ≤ wider → wider ≤ table.count → Searches table n index wider
searches_left table n index end middle wider searches after begins below more within ranges are stand =
    let counted : length ranges ≡ table.count = stand.counted in
    let range : Entry = get_or ranges middle no_range in
    let here : slice_get ranges middle ≡ Some range = slice_get-get_or ranges middle no_range (omega arith) in
    let at : IsAt table middle range = stand.each middle range here in
    let first : slice_index table.words (table.firsts + middle) ≡ first_of range = at.first in
    Searched-left ranges n index end middle wider range are.ordered (searches ranges are stand) after here
    (omega arith) more (omega arith)

-- a turn of the search leaves half, on one side or on the other
pub Searches-turn : (table : Table) (n index size half middle next : ℕ)
    → Searches table n index (index + size) → index + size ≤ table.count → 2 ≤ size → half ≡ size / 2
    → middle ≡ index + half
    → (slice_index table.words (table.firsts + middle) ≤ n → next ≡ middle)
    → (n < slice_index table.words (table.firsts + middle) → next ≡ index)
    → Searches table n next (next + (size - half))
Searches-turn table n index size half middle next searches within some halved is right left =
    elim (cases_lt n (slice_index table.words (table.firsts + middle))) [
      | inl begins ↦
          let stays : next ≡ index = left begins in
          rw stays
          (searches_left table n index (index + size) middle (index + (size - half)) searches (omega arith) begins
          (omega arith) (omega arith) (omega arith))
      | inr begins ↦
          let moved : next ≡ middle = right begins in
          let last : next + (size - half) ≡ index + size = omega arith in
          rw (last, moved) (searches_right table n index (index + size) middle searches within (omega arith) begins)
    ]

-- ---- what is said

-- there is no range
pub SaysIn-none : (specs : List IdMap) (direction : Direction) (table : Table) (n : ℕ)
    → HasRanges specs direction table → table.count ≡ 0 → SaysIn specs direction n (answers.Becomes n)
SaysIn-none specs direction table n has none = (
  Some n,
  Becomes-itself specs direction has.ranges n has.are.whole
      (λ range (k, below, here) covers. absurd (omega (arith, has.stand.counted))),
  refl,
)

-- the range at an index decides, where no other one covers the number
says_by : (specs : List IdMap) (direction : Direction) (table : Table) (n at : ℕ) (answer : Answer)
    (has : HasRanges specs direction table)
    → at < table.count
    → ((range : Entry) → IsAt table at range → HasNumbers range → HasTarget range → SaysEntry range n answer)
    → ((range other : Entry) → slice_get has.ranges at ≡ Some range → Contains has.ranges other → EntryCovers other n
    → range ≡ other)
    → SaysIn specs direction n answer
says_by specs direction table n at answer has inside says alone =
    let counted : length has.ranges ≡ table.count = has.stand.counted in
    let inside' : at < length has.ranges = omega arith in
    let range : Entry = get_or has.ranges at no_range in
    let here : slice_get has.ranges at ≡ Some range = slice_get-get_or has.ranges at no_range inside' in
    let stored : Contains has.ranges range = Contains-get_or has.ranges at no_range inside' in
    let numbers : HasNumbers range = has.are.ordered.numbers at no_range inside' in
    let target : HasTarget range = has.are.ordered.target at no_range inside' in
    elim (says range (has.stand.each at range here) numbers target) [
      | inl (covers, value) ↦ search (rules, Becomes-by_range)
      | inr (beyond, value) ↦ (
        Some n,
        Becomes-itself specs direction has.ranges n has.are.whole (λ other stored' covers.
            let same : range ≡ other = alone range other here stored' covers in
            beyond (rw same covers)),
        value,
      )
    ]

-- the range decides at which the search ended
pub SaysIn-last : (specs : List IdMap) (direction : Direction) (table : Table) (n index : ℕ) (answer : Answer)
    → HasRanges specs direction table → Searches table n index (index + 1) → index < table.count
    → ((range : Entry) → IsAt table index range → HasNumbers range → HasTarget range → SaysEntry range n answer)
    → SaysIn specs direction n answer
SaysIn-last specs direction table n index answer has searches inside says =
    says_by specs direction table n index answer has inside says (λ range other here stored covers.
    same_Some _ _
    (sym here
    ∙ Searched-finds has.ranges n index other has.are.ordered.ordered (searches has.ranges has.are.ordered has.stand) stored
    covers))

-- ---- no specification

-- they are as many as specifications act
pub HasRanges-count : (specs : List IdMap) (direction : Direction) (table : Table) → HasRanges specs direction table
    → table.count ≡ acting specs direction
HasRanges-count specs direction table has = sym has.stand.counted
    ∙ length_permutation (entries specs direction) has.ranges has.are.whole ∙ length-entries specs direction

-- what a map without specifications lends
pub IsImage-empty : IsImage [] (words_lent [])
IsImage-empty = grind arith

-- a map that has words lends those
pub IsImage-lent : (specs : List IdMap) (words : List ℕ) → IsImage specs words → IsImage specs (words_lent words)
IsImage-lent specs words image = grind arith

-- ---- how many ranges there are

digits_of_one : binary_digits 1 ≡ 1
unfolding binary_digits halvings_within
digits_of_one = refl

-- no range is read where there is none, and one where there is one
pub CountsBetween-none : (count before after : ℕ) → count ≡ 0 → after ≡ count_after before 0
    → CountsBetween (min 1 count) (binary_digits count) before after
CountsBetween-none count before after none counted = search rules

pub CountsBetween-one : (count before after : ℕ) → count ≡ 1 → after ≡ count_after before 1
    → CountsBetween 1 (binary_digits count) before after
CountsBetween-one count before after one counted = search (rules, digits_of_one)

-- one range or more
pub CountsBetween-some : (count most before after : ℕ) → 1 ≤ count → CountsBetween 1 most before after
    → CountsBetween (min 1 count) most before after
CountsBetween-some count most before after some counts = search rules

-- a range begins at its index or above it
begins_above : (ranges : List Entry) (d : Entry) (k : ℕ) → All HasNumbers ranges → AllPairs Precedes ranges
    → k < length ranges → k ≤ first_of (get_or ranges k d)
begins_above ranges d zero numbers ordered below = omega arith
begins_above ranges d (suc k) numbers ordered below =
    grind (arith, begins_above ranges d k numbers ordered (omega arith))

count_below : (ranges : List Entry) (count : ℕ) → AreRanges ranges → length ranges ≡ count → count < 4294967296
count_below ranges zero are counted = omega arith
count_below ranges (suc k) are counted =
    let below : k < length ranges = omega arith in
    let begins : k ≤ first_of (get_or ranges k no_range) =
    begins_above ranges no_range k are.numbers are.ordered below in
    let own = are.numbers k no_range below in
    omega (arith, own.some, own.source)

-- ranges are fewer than a word can count
pub few_ranges : (ranges : List Entry) → AreRanges ranges → length ranges < 4294967296
few_ranges ranges are = count_below ranges (length ranges) are refl

-- ---- what an answer says

pub SaysIn-becomes : (specs : List IdMap) (direction : Direction) (n m : ℕ)
    → SaysIn specs direction n (answers.Becomes m) → Becomes specs direction n (Some m)
SaysIn-becomes specs direction n m (value, becomes, is) = rw is at becomes

pub SaysIn-fails : (specs : List IdMap) (direction : Direction) (n : ℕ) → SaysIn specs direction n answers.Fails
    → Becomes specs direction n None
SaysIn-fails specs direction n (value, becomes, is) = rw is at becomes

pub SaysIn-no_image : (specs : List IdMap) (direction : Direction) (n : ℕ) → ¬ SaysIn specs direction n answers.NoImage
SaysIn-no_image specs direction n (value, becomes, is) = is

-- an accepted list makes one thing of a number, so the answer says that
pub SaysIn-exact : (specs : List IdMap) (direction : Direction) (n : ℕ) (value : Option ℕ) (answer : Answer)
    → Accepted specs → SaysIn specs direction n answer → Becomes specs direction n value → SaysValue value answer
SaysIn-exact specs direction n value answer accepted (own, becomes, says) other =
    subst (λ (v : Option ℕ). SaysValue v answer)
    (HasOneValue-accepted specs accepted direction n own value becomes other) says

pub SaysIn-leads_back : (specs : List IdMap) (direction : Direction) (n : ℕ) (answer : Answer) → Accepted specs
    → IsMappedBothWays specs direction n → SaysIn specs direction n answer → SaysLeadsBack specs direction n answer
SaysIn-leads_back specs direction n (answers.Becomes m) accepted mapped (value, becomes, is) =
    rw is at (LeadsBack-mapped specs direction n value accepted mapped becomes)
SaysIn-leads_back specs direction n answers.Fails accepted mapped (value, becomes, is) =
    rw is at (LeadsBack-mapped specs direction n value accepted mapped becomes)
SaysIn-leads_back specs direction n answers.NoImage accepted mapped (value, becomes, is) = is

-- what an answer says
pub ruleset what_is_said = (SaysIn-becomes, SaysIn-fails, SaysIn-no_image)

-- what a map lends
pub ruleset what_is_lent = (IsImage-empty, IsImage-lent, HasRanges-count)

-- the steps of a lookup
pub ruleset looked_up = (CountsBetween-none, CountsBetween-some)

-- how a search begins and goes on
pub ruleset searched = (HasDigitsFor-start, HasDigitsFor-less, Searches-start, Searches-turn, CountsBetween-one)
