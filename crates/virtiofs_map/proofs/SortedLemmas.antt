-- The entries of a list of specifications in a direction: what they are of the list, and that, when they are sorted,
-- they are ranges of a map just where the list is accepted.
use Rattle.std.proofs.Common.{◌≡◌, ℕ, ◌+◌, ◌<◌, ◌≤◌, Bool, true, false, cond, ◌&&◌, List, [], ◌∷◌, ◌++◌, length, get_or}
use Rattle.std.proofs.Common.{inl, inr, suc, All, AllPairs, Contains, IsPermutation, Option, Some, None, IfSome, IsSomeAnd, take}
use Rattle.std.proofs.Common.{arith, sym, ◌∙◌, nat_lt, nat_le, filter_map, count_by, refl, ◌↔◌, IsTrue, zero, add-one, append-nil}
use Rattle.std.specs.List.{cons_option, IsAllAdjacentAnswer}
use Rattle.std.specs.List.Sorted.{IsNonDecreasingBy}
use Rattle.std.proofs.lemmas.Bool.{cases_lt, cases_Bool, false≢true, false_from_ne_true, and_from, lt-ltb, le-leb, le-ltb}
use Rattle.std.proofs.lemmas.Bool.Decides.{nat_tests}
use Rattle.std.proofs.lemmas.List.{get_or-take, length-take, take_more}
use Rattle.std.proofs.lemmas.List.Elements.{All-nil, All-cons, All-head, All-tail, All-contains, All-contains_itself}
use Rattle.std.proofs.lemmas.List.Elements.{All-weaker, filter_map-append}
use Rattle.std.proofs.lemmas.List.Sorted.{All-permutation, Contains-permutation}
use Rattle.std.proofs.lemmas.List.Sorted.{sum_by-IsPermutation}
use Rattle.std.proofs.lemmas.List.Sums.{sum_by-cons, sum_by-take-drop, sum_by-drop_more, get_or-le-sum_by}
use Rattle.virtiofs_map.specs.Build.{Accepted, HasSource, HasTarget, Meet}
use Rattle.virtiofs_map.specs.LookupSteps.{covers_some, acting}
use Rattle.virtiofs_map.specs.Mapping.{entry_of, first_of, count_of, EntryCovers}
use Rattle.virtiofs_map.specs.RangeParts.{Precedes, precedes, HasRoom, HasNumbers, AreRanges, AreRangesOf, acting_entry}
use Rattle.virtiofs_map.specs.RangeParts.{entries, if_acts, AreSorted}
use Rattle.virtiofs_map.specs.declared.cmdline.IdMap.{IdMap}
use Rattle.virtiofs_map.specs.declared.soft_idmap.entry.Direction.{Direction}
use Rattle.virtiofs_map.specs.declared.soft_idmap.entry.Direction.TheVariants.{GuestToHost, HostToGuest}
use Rattle.virtiofs_map.specs.declared.soft_idmap.entry.Entry.{Entry}
use Rattle.virtiofs_map.specs.declared.soft_idmap.entry.Entry.TheVariants.{Map, Squash, Fail}

-- ---- what a list gives

All-filter_map : {X Y : Type 0} (h : X → Option Y) (P : Y → Type 0) (xs : List X) → All (λ x. IfSome (h x) P) xs
    → All P (filter_map h xs)
All-filter_map h P [] all = All-nil P
All-filter_map {X} {Y} h P (x ∷ xs) all =
    by (h x) (All-head (λ y. IfSome (h y) P) x xs all)
    (All-filter_map h P xs (All-tail (λ y. IfSome (h y) P) x xs all)) where
      by : (o : Option Y) → IfSome o P → All P (filter_map h xs) → All P (cons_option o (filter_map h xs))
      by None holds rest = rest
      by (Some y) holds rest = All-cons P y (filter_map h xs) holds rest

All-from_filter_map : {X Y : Type 0} (h : X → Option Y) (P : Y → Type 0) (xs : List X) → All P (filter_map h xs)
    → All (λ x. IfSome (h x) P) xs
All-from_filter_map h P [] all = All-nil (λ x. IfSome (h x) P)
All-from_filter_map {X} {Y} h P (x ∷ xs) all =
    let (here, rest) = parts (h x) all in
    All-cons (λ y. IfSome (h y) P) x xs here (All-from_filter_map h P xs rest) where
      parts : (o : Option Y) → All P (cons_option o (filter_map h xs)) → IfSome o P × All P (filter_map h xs)
      parts None all = (tt, all)
      parts (Some y) all = (All-head P y (filter_map h xs) all, All-tail P y (filter_map h xs) all)

-- the entry is that of one of the specifications, and covers a number
abbrev IsOfOne : List IdMap → Direction → Entry → Type 0
IsOfOne specs direction entry =
    (spec : IdMap) × Contains specs spec × (entry_of spec direction ≡ Some entry) × (1 ≤ count_of entry)

-- an option, where an entry of it covers a number
acting_some : (o : Option Entry) → IfSome (if_acts o) (λ entry. (o ≡ Some entry) × (1 ≤ count_of entry))
acting_some None = tt
acting_some (Some entry) = grind (arith, nat_tests)

acting_is : (o : Option Entry) (entry : Entry) → o ≡ Some entry → 1 ≤ count_of entry → if_acts o ≡ Some entry
acting_is o entry is some = rw is (rw (lt-ltb 0 (count_of entry) some) refl)

pub entries-from : (specs : List IdMap) (direction : Direction) (entry : Entry)
    → Contains (entries specs direction) entry → IsOfOne specs direction entry
entries-from specs direction entry listed =
    All-contains (IsOfOne specs direction) (entries specs direction) entry
    (All-filter_map (acting_entry direction) (IsOfOne specs direction) specs
    (All-weaker (Contains specs) (λ spec. IfSome (acting_entry direction spec) (IsOfOne specs direction)) of_spec specs
    (All-contains_itself specs))) listed where
      with_spec : (spec : IdMap) (o : Option Entry) → Contains specs spec
          → IfSome o (λ own. (entry_of spec direction ≡ Some own) × (1 ≤ count_of own))
          → IfSome o (IsOfOne specs direction)
      with_spec spec None listed is = tt
      with_spec spec (Some own) listed is = (spec, listed, is.0, is.1)

      of_spec : (spec : IdMap) → Contains specs spec → IfSome (acting_entry direction spec) (IsOfOne specs direction)
      of_spec spec listed = with_spec spec (acting_entry direction spec) listed (acting_some (entry_of spec direction))

pub entries-each : (specs : List IdMap) (direction : Direction) (spec : IdMap) (entry : Entry) → Contains specs spec
    → entry_of spec direction ≡ Some entry → 1 ≤ count_of entry → Contains (entries specs direction) entry
entries-each specs direction spec entry listed is some =
    rw (acting_is (entry_of spec direction) entry is some) at
    (All-contains (λ own. IfSome (acting_entry direction own) (Contains (entries specs direction))) specs spec
    (All-from_filter_map (acting_entry direction) (Contains (entries specs direction)) specs
    (All-contains_itself (entries specs direction))) listed)

pub length-entries : (specs : List IdMap) (direction : Direction)
    → length (entries specs direction) ≡ acting specs direction
length-entries [] direction = refl
length-entries (spec ∷ specs) direction =
    rw (sum_by-cons (λ own. cond (covers_some (entry_of own direction)) 1 0) spec specs)
    (by (entry_of spec direction) (length-entries specs direction)) where
      by : (o : Option Entry) → length (entries specs direction) ≡ acting specs direction
          → length (cons_option (if_acts o) (entries specs direction)) ≡ cond (covers_some o) 1 0 + acting specs direction
      by None rest = omega arith
      by (Some entry) rest = grind (arith, nat_tests)

-- the next specification sets up an entry, or none
pub entries-some : (specs : List IdMap) (direction : Direction) (i : ℕ) (d : IdMap) (entry : Entry) (so_far : List Entry)
    → i < length specs → so_far ≡ entries (take i specs) direction
    → acting_entry direction (get_or specs i d) ≡ Some entry
    → so_far ++ entry ∷ [] ≡ entries (take (i + 1) specs) direction
entries-some specs direction i d entry so_far below same is =
    rw (take_more specs i d below, filter_map-append (acting_entry direction) (take i specs) (get_or specs i d ∷ []), is, same)
    refl

pub entries-none : (specs : List IdMap) (direction : Direction) (i : ℕ) (d : IdMap) (so_far : List Entry)
    → i < length specs → so_far ≡ entries (take i specs) direction → acting_entry direction (get_or specs i d) ≡ None
    → so_far ≡ entries (take (i + 1) specs) direction
entries-none specs direction i d so_far below same is =
    rw (take_more specs i d below, filter_map-append (acting_entry direction) (take i specs) (get_or specs i d ∷ []), is)
    (same ∙ sym (append-nil (entries (take i specs) direction)))

-- ---- at most one element of a list passes a test

-- no two elements pass
abbrev AreAlone : {X : Type 0} → (X → Bool) → List X → Type 0
AreAlone p xs = AllPairs (λ x y. p x ≡ true → ¬ (p y ≡ true)) xs

none_passes : {X : Type 0} (p : X → Bool) (xs : List X) → All (λ x. p x ≡ false) xs → count_by p xs ≡ 0
none_passes p [] none = refl
none_passes p (x ∷ xs) none =
    rw (sum_by-cons (λ y. cond (p y) 1 0) x xs, All-head (λ y. p y ≡ false) x xs none)
    (omega (arith, none_passes p xs (All-tail (λ y. p y ≡ false) x xs none)))

count-alone : {X : Type 0} (p : X → Bool) (xs : List X) → AreAlone p xs → count_by p xs ≤ 1
count-alone p [] alone = omega arith
count-alone p (x ∷ xs) alone =
    rw (sum_by-cons (λ y. cond (p y) 1 0) x xs)
    (elim (cases_Bool (p x)) [
      | inl yes' ↦ rw yes'
          (omega (
            arith,
            none_passes p xs (λ k d below. false_from_ne_true (p (get_or xs k d))
                (alone 0 (suc k) d (omega arith) (omega arith) yes')),
          ))
      | inr no' ↦ rw no'
          (omega (arith, count-alone p xs (λ i j d before below. alone (suc i) (suc j) d (omega arith) (omega arith))))
    ])

alone-count : {X : Type 0} (p : X → Bool) (xs : List X) → count_by p xs ≤ 1 → AreAlone p xs
alone-count {X} p xs few i j d before below one other =
    let n : X → ℕ = λ x. cond (p x) 1 0 in
    let first : n (get_or (take j xs) i d) ≤ count_by p (take j xs) =
    get_or-le-sum_by n (take j xs) i d (omega (arith, length-take j xs)) in
    let same : n (get_or (take j xs) i d) ≡ 1 = rw (get_or-take j xs i d before, one) refl in
    let second : n (get_or xs j d) ≡ 1 = rw other refl in
    omega (arith, sum_by-drop_more n xs j d below, sum_by-take-drop n xs j)

-- ---- which specifications, and which entries, cover a number

abbrev covers_at : ℕ → Option Entry → Bool
covers_at n None = false
covers_at n (Some entry) = nat_le (first_of entry) n && nat_lt n (first_of entry + count_of entry)

covered : (n : ℕ) (o : Option Entry) → covers_at n o ≡ true → IsSomeAnd o (λ entry. EntryCovers entry n)
covered n None is = absurd (false≢true is)
covered n (Some entry) is = grind (arith, nat_tests)

covers : (n : ℕ) (o : Option Entry) → IsSomeAnd o (λ entry. EntryCovers entry n) → covers_at n o ≡ true
covers n None none = absurd none
covers n (Some entry) (low, high) = and_from _ _ (le-leb (first_of entry) n low) (lt-ltb n _ high)

-- how many of the specifications, and of entries, cover a number
abbrev covering : Direction → ℕ → List IdMap → ℕ
covering direction n specs = count_by (λ spec. covers_at n (entry_of spec direction)) specs

abbrev covering_in : ℕ → List Entry → ℕ
covering_in n list = count_by (λ entry. covers_at n (Some entry)) list

covering-entries : (direction : Direction) (n : ℕ) (specs : List IdMap)
    → covering_in n (entries specs direction) ≡ covering direction n specs
covering-entries direction n [] = refl
covering-entries direction n (spec ∷ specs) =
    rw (sum_by-cons (λ own. cond (covers_at n (entry_of own direction)) 1 0) spec specs)
    (by (entry_of spec direction) (covering-entries direction n specs)) where
      by : (o : Option Entry) → covering_in n (entries specs direction) ≡ covering direction n specs
          → covering_in n (cons_option (if_acts o) (entries specs direction))
          ≡ cond (covers_at n o) 1 0 + covering direction n specs
      by None rest = omega arith
      by (Some entry) rest = elim (cases_lt 0 (count_of entry)) [
        | inl some ↦ rw (
          lt-ltb 0 (count_of entry) some,
          sum_by-cons (λ own. cond (covers_at n (Some own)) 1 0) entry (entries specs direction),
          rest,
        )
            refl
        | inr none ↦
            let beyond : covers_at n (Some entry) ≡ false =
            false_from_ne_true (covers_at n (Some entry)) (λ is. absurd (omega (arith, covered n (Some entry) is))) in
            rw (le-ltb 0 (count_of entry) none, beyond) (omega arith)
      ]

covering-apart : (specs : List IdMap) (direction : Direction) (n : ℕ)
    → AllPairs (λ spec other. ¬ Meet spec other direction) specs → covering direction n specs ≤ 1
covering-apart specs direction n apart =
    count-alone (λ spec. covers_at n (entry_of spec direction)) specs
    (λ i j d before below one other. apart i j d before below (
      n,
      covered n (entry_of (get_or specs i d) direction) one,
      covered n (entry_of (get_or specs j d) direction) other,
    ))

apart-covering : (specs : List IdMap) (direction : Direction) → ((n : ℕ) → covering direction n specs ≤ 1)
    → AllPairs (λ spec other. ¬ Meet spec other direction) specs
apart-covering specs direction few i j d before below (n, first, second) =
    alone-count (λ spec. covers_at n (entry_of spec direction)) specs (few n) i j d before below
    (covers n (entry_of (get_or specs i d) direction) first)
    (covers n (entry_of (get_or specs j d) direction) second)

-- so the order of the list does not matter
pub apart-permutation : (specs others : List IdMap) (direction : Direction) → IsPermutation specs others
    → AllPairs (λ spec other. ¬ Meet spec other direction) specs
    → AllPairs (λ spec other. ¬ Meet spec other direction) others
apart-permutation specs others direction permutation apart =
    apart-covering others direction (λ n. omega (
      arith,
      sum_by-IsPermutation (λ spec. cond (covers_at n (entry_of spec direction)) 1 0) specs others permutation,
      covering-apart specs direction n apart,
    ))

-- ---- the entries are ranges just where the list is accepted

-- where entries rise, and no two cover a number, each ends before the next begins
preceding : (sorted : List Entry) → IsNonDecreasingBy first_of sorted → All (λ entry. 1 ≤ count_of entry) sorted
    → ((n : ℕ) → covering_in n sorted ≤ 1) → AllPairs Precedes sorted
preceding sorted rising some few i j d before below =
    let x = get_or sorted i d in
    let y = get_or sorted j d in
    elim (cases_lt (first_of y) (first_of x + count_of x)) [
      | inl overlap ↦ absurd
          (alone-count (λ entry. covers_at (first_of y) (Some entry)) sorted (few (first_of y)) i j d before below
          (covers (first_of y) (Some x) (rising i j d (omega arith) below, overlap))
          (covers (first_of y) (Some y) (omega arith, omega (arith, some j d below))))
      | inr precedes ↦ precedes
    ]

covering-ordered : (ranges : List Entry) (n : ℕ) → AllPairs Precedes ranges → covering_in n ranges ≤ 1
covering-ordered ranges n ordered =
    count-alone (λ entry. covers_at n (Some entry)) ranges (λ i j d before below one other. omega (
      arith,
      covered n (Some (get_or ranges i d)) one,
      covered n (Some (get_or ranges j d)) other,
      ordered i j d before below,
    ))

-- what holds of each entry that is that of a specification
all_sorted : (specs : List IdMap) (direction : Direction) (sorted : List Entry) (P : Entry → Type 0)
    → AreSorted specs direction sorted → ((entry : Entry) → IsOfOne specs direction entry → P entry) → All P sorted
all_sorted specs direction sorted P are holds =
    All-permutation P (entries specs direction) sorted are.whole
    (All-weaker (Contains (entries specs direction)) P
    (λ entry listed. holds entry (entries-from specs direction entry listed)) (entries specs direction)
    (All-contains_itself (entries specs direction)))

pub some_numbers : (specs : List IdMap) (direction : Direction) (sorted : List Entry) → AreSorted specs direction sorted
    → All (λ entry. 1 ≤ count_of entry) sorted
some_numbers specs direction sorted are =
    all_sorted specs direction sorted (λ entry. 1 ≤ count_of entry) are (λ entry of_one. of_one.3)

pub AreRanges-accepted : (specs : List IdMap) (direction : Direction) (sorted : List Entry) → Accepted specs
    → AreSorted specs direction sorted → AreRanges sorted
AreRanges-accepted specs direction sorted accepted are = record {
  numbers = all_sorted specs direction sorted HasNumbers are
      (λ entry (spec, listed, is, some). record { some = some; source = (rw is at (source spec listed)) some });
  target = all_sorted specs direction sorted HasTarget are (λ entry (spec, listed, is, some). (rw is at (target spec listed)));
  ordered = preceding sorted are.rising (some_numbers specs direction sorted are) (λ n. omega (
    arith,
    sum_by-IsPermutation (λ entry. cond (covers_at n (Some entry)) 1 0) (entries specs direction) sorted are.whole,
    covering-entries direction n specs,
    covering-apart specs direction n (accepted.apart direction),
  ));
} where
  source : (spec : IdMap) → Contains specs spec → IfSome (entry_of spec direction) HasSource
  source spec = All-contains (λ own. IfSome (entry_of own direction) HasSource) specs spec (accepted.source direction)

  target : (spec : IdMap) → Contains specs spec → IfSome (entry_of spec direction) HasTarget
  target spec = All-contains (λ own. IfSome (entry_of own direction) HasTarget) specs spec (accepted.target direction)

record IsAcceptedIn (specs : List IdMap) (direction : Direction) : Type 0 where
  source : All (λ spec. IfSome (entry_of spec direction) HasSource) specs
  target : All (λ spec. IfSome (entry_of spec direction) HasTarget) specs
  apart : AllPairs (λ spec other. ¬ Meet spec other direction) specs

accepted_in : (specs : List IdMap) (direction : Direction) (ranges : List Entry) → AreRangesOf specs direction ranges
    → IsAcceptedIn specs direction
accepted_in specs direction ranges are = record {
  source = All-weaker (Contains specs) (λ spec. IfSome (entry_of spec direction) HasSource)
      (λ spec listed. source spec listed (entry_of spec direction) refl) specs (All-contains_itself specs);
  target = All-weaker (Contains specs) (λ spec. IfSome (entry_of spec direction) HasTarget)
      (λ spec listed. target spec listed (entry_of spec direction) refl) specs (All-contains_itself specs);
  apart = apart-covering specs direction (λ n. omega (
    arith,
    covering-ordered ranges n are.ordered.ordered,
    sum_by-IsPermutation (λ entry. cond (covers_at n (Some entry)) 1 0) (entries specs direction) ranges are.whole,
    covering-entries direction n specs,
  ));
} where
  stored : (spec : IdMap) (entry : Entry) → Contains specs spec → entry_of spec direction ≡ Some entry
      → 1 ≤ count_of entry → Contains ranges entry
  stored spec entry listed is some = Contains-permutation (entries specs direction) ranges entry are.whole
      (entries-each specs direction spec entry listed is some)

  source : (spec : IdMap) → Contains specs spec → (o : Option Entry) → entry_of spec direction ≡ o → IfSome o HasSource
  source spec listed None is = tt
  source spec listed (Some entry) is =
      λ some. (All-contains HasNumbers ranges entry are.ordered.numbers (stored spec entry listed is some)).source

  if_some : (entry : Entry) → (1 ≤ count_of entry → HasTarget entry) → HasTarget entry
  if_some (Map first to count) has = λ some. has some some
  if_some (Squash first to count) has = tt
  if_some (Fail first count) has = tt

  target : (spec : IdMap) → Contains specs spec → (o : Option Entry) → entry_of spec direction ≡ o → IfSome o HasTarget
  target spec listed None is = tt
  target spec listed (Some entry) is = if_some entry
      (λ some. All-contains HasTarget ranges entry are.ordered.target (stored spec entry listed is some))

pub Accepted-ranges : (specs : List IdMap) (guests hosts : List Entry) → AreRangesOf specs GuestToHost guests
    → AreRangesOf specs HostToGuest hosts → Accepted specs
Accepted-ranges specs guests hosts from_guest from_host = record {
  source = λ direction. (each direction).source;
  target = λ direction. (each direction).target;
  apart = λ direction. (each direction).apart;
} where
  each : (direction : Direction) → IsAcceptedIn specs direction
  each GuestToHost = accepted_in specs GuestToHost guests from_guest
  each HostToGuest = accepted_in specs HostToGuest hosts from_host

-- ---- how entries are tested

-- what `is_sorted_by` answers
pub Precedes-next : (xs : List Entry) (r : Bool) → IsAllAdjacentAnswer (λ x y b. b ≡ precedes x y) xs r
    → IsTrue r ↔ AllPairs Precedes xs
Precedes-next xs true next = ((λ _. pairs), (λ _. refl)) where
  adjacent : (k : ℕ) (d : Entry) → k + 1 < length xs → Precedes (get_or xs k d) (get_or xs (k + 1) d)
  adjacent k d below = grind (arith, nat_tests, next k d below)

  pairs : AllPairs Precedes xs
  pairs i (suc j) d before below = elim (cases_lt i j) [
    | inl earlier ↦ omega (arith, pairs i j d earlier (omega arith), rw (add-one j) at (adjacent j d (omega arith)))
    | inr same ↦
        let is : i ≡ j = omega arith in
        rw is (rw (add-one j) at (adjacent j d (omega arith)))
  ]
  pairs i zero d before below = absurd (omega arith)
Precedes-next xs false (k, below, fails) =
    let d : Entry = Fail 0 0 in (
      λ yes'. absurd (false≢true yes'),
      λ pairs. absurd (false≢true
          (fails d ∙ le-leb _ (first_of (get_or xs (k + 1) d)) (pairs k (k + 1) d (omega arith) below))),
    )

pub ranges_told : (sorted : List Entry) → All (λ entry. 1 ≤ count_of entry) sorted → All HasRoom sorted
    → AllPairs Precedes sorted → AreRanges sorted
ranges_told sorted some room ordered = record {
  numbers = λ k d below. record { some = some k d below; source = (room k d below).0 (some k d below) };
  target = λ k d below. (room k d below).1;
  ordered = ordered;
}

pub room_told : (sorted : List Entry) → AreRanges sorted → All HasRoom sorted
room_told sorted are k d below = ((λ _. (are.numbers k d below).source), are.target k d below)

pub sorted_whole : (specs : List IdMap) (direction : Direction) (all sorted : List Entry)
    → all ≡ entries specs direction → IsPermutation all sorted → IsPermutation (entries specs direction) sorted
sorted_whole specs direction all sorted is permutation = rw (← is) permutation
