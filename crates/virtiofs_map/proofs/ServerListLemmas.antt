-- The list that the guest gets, name by name.
use Rattle.std.proofs.Common.{◌≡◌, ℕ, ◌+◌, ◌<◌, ◌≤◌, Bool, true, false, not, eqb, List, [], ◌∷◌, ◌++◌, length, Option}
use Rattle.std.proofs.Common.{Some, None, refl, ◌∙◌, arith, filter, rules}
use Rattle.std.specs.List.{slice_split, filter_map, flat_map, position, position_or_len}
use Rattle.std.specs.List.{before_first, after_first}
use Rattle.std.proofs.lemmas.Bool.{cond_both, ltb-true, cases_lt}
use Rattle.std.proofs.lemmas.List.{take_all, drop_all, append-nil, length-append, length-drop, length_push}
use Rattle.std.proofs.lemmas.List.Splits.{slice_split_first, slice_split_none, length-slice_split}
use Rattle.std.proofs.lemmas.List.Sums.{fails_before_first}
use Rattle.std.proofs.lemmas.List.Elements.{All-from_get_or, filter-append}
use Rattle.virtiofs_map.specs.Rule.{MappingRule}
use Rattle.virtiofs_map.specs.Names.{host_answer, listed_name, names}

abbrev pub is_zero : ℕ → Bool
is_zero byte = eqb byte 0

abbrev pub is_name : List ℕ → Bool
is_name part = not (eqb (length part) 0)

-- ---- the first zero

-- a place that `position` gives is the first that passes
pub position-Some_is : {X : Type 0} (p : X → Bool) (xs : List X) (i : ℕ) → Some i ≡ position p xs
    → (i ≡ position_or_len p xs) × (i < length xs)
position-Some_is p xs i = search (rules, cond_both, ltb-true)

pub position-None_is : {X : Type 0} (p : X → Bool) (xs : List X) → None ≡ position p xs
    → length xs ≤ position_or_len p xs
position-None_is p xs = search (rules, cond_both)

-- ---- the names of a list

-- the first name of a list, if it is one, and then the names of the rest
pub names_step : (list : List ℕ)
    → names list ≡ filter is_name (before_first is_zero list ∷ []) ++ names (after_first is_zero list)
names_step list =
    grind (arith, cases_lt, is_zero, is_name, slice_split_first, filter-append, slice_split_none, All-from_get_or, fails_before_first, take_all, drop_all, append-nil)

-- what `cut_name` gives: what stands before the first zero, and what stands after it
pub record IsCut (list name rest : List ℕ) : Type 0 where
  pub before : name ≡ before_first is_zero list
  pub after : rest ≡ after_first is_zero list

pub names_step_name : (list name rest : List ℕ) → IsCut list name rest → is_name name ≡ true
    → names list ≡ name ∷ names rest
names_step_name list name rest cut e = names_step list ∙ rw (← cut.before, ← cut.after, e) refl

pub names_step_none : (list name rest : List ℕ) → IsCut list name rest → is_name name ≡ false → names list ≡ names rest
names_step_none list name rest cut e = names_step list ∙ rw (← cut.before, ← cut.after, e) refl

-- ---- what becomes of them

-- the names, each followed by a zero
abbrev pub with_zeros : List (List ℕ) → List ℕ
with_zeros names = flat_map (λ name. name ++ 0 ∷ []) names

-- the names that are listed, each followed by a zero
abbrev pub shown : List MappingRule → List ℕ → Option (List ℕ)
shown rules name = listed_name (host_answer rules name)

abbrev pub listed : List MappingRule → List ℕ → List ℕ
listed rules list = with_zeros (filter_map (shown rules) (names list))

-- ---- how long the list is

-- the bytes of the parts, and one more for each
abbrev total : List (List ℕ) → ℕ
total [] = 0
total (part ∷ parts) = (length part + 1) + total parts

total_split : (list : List ℕ) → total (slice_split is_zero list) ≡ length list + 1
total_split [] = refl
total_split (x ∷ xs) = grind (arith, total_split xs, cond_both, is_zero, total, length-slice_split)

length_parts : (rules : List MappingRule) (parts : List (List ℕ))
    → length (with_zeros (filter_map (shown rules) (filter is_name parts))) ≤ total parts
length_parts rules [] = omega arith
length_parts rules (part ∷ parts) =
    grind (arith, length_parts rules parts, cond_both, is_name, with_zeros, shown, total, length-append, length_push, length-drop)

pub length-listed : (rules : List MappingRule) (list : List ℕ) → length (listed rules list) ≤ length list + 1
length-listed rules list = omega (arith, length_parts rules (slice_split is_zero list), total_split list)

-- ---- how long a list is

-- a name more, of a list with so many bytes left
pub short_more : (count left rest list shown next : ℕ) → next ≡ count + shown + 1 → 0 < rest
    → (0 < rest → count + rest ≤ list)
    → shown + left ≤ rest → (0 < left → shown + left < rest) → next + left ≤ list + 1
short_more count left rest list shown next is some room within apart = grind arith

pub shorter_more : (count left rest list shown next : ℕ) → next ≡ count + shown + 1 → 0 < rest
    → (0 < rest → count + rest ≤ list)
    → (0 < left → shown + left < rest) → 0 < left → next + left ≤ list
shorter_more count left rest list shown next is some room apart more = omega (arith, apart more, room some)
