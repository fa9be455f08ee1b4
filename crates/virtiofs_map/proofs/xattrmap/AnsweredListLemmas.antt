-- The list that is answered once all items of a host's list are written down: it is not empty, and short enough.
use Rattle.std.proofs.Common.{◌≡◌, ℕ, true, false, eqb, List, [], ◌∷◌, ◌++◌, Option, Some, None, Err, length, ◌+◌, ◌<◌}
use Rattle.std.proofs.Common.{◌≤◌, refl, arith, append-nil}
use Rattle.std.proofs.lemmas.Bool.{cond_both}
use Rattle.std.proofs.lemmas.Bool.Decides.{nat_tests}
use Rattle.virtiofs_map.specs.Names.{names, as_list, server_answer}
use Rattle.virtiofs_map.specs.Rule.{MappingRule}
use Rattle.virtiofs_map.specs.declared.xattrmap.errors.Error.{Error}
use Rattle.virtiofs_map.proofs.ServerListLemmas.{shown, with_zeros, length-listed}
use Rattle.virtiofs_map.proofs.xattrmap.ListingLemmas.{Item, all_ok, names_of, zeros_of, list_of-listing, IsSoFar}

-- a list, or one zero where it is empty
abbrev pub or_zero : List ℕ → List ℕ
or_zero [] = 0 ∷ []
or_zero (x ∷ xs) = x ∷ xs

pub or_zero-pushed : {len : ℕ} (old new : List ℕ) → len ≡ length old → eqb len 0 ≡ true → new ≡ old ++ 0 ∷ []
    → or_zero old ≡ new
or_zero-pushed old new is none e = grind (arith, nat_tests)

pub or_zero-kept : {len : ℕ} (old : List ℕ) → len ≡ length old → false ≡ eqb len 0 → or_zero old ≡ old
or_zero-kept old is some = grind (arith, nat_tests)

as_list_is : (names : List (List ℕ)) → as_list names ≡ or_zero (with_zeros names)
as_list_is [] = refl
as_list_is ([] ∷ names) = refl
as_list_is ((x ∷ xs) ∷ names) = refl

pub same_some : {X : Type 0} (o : Option X) (x y : X) → o ≡ Some x → o ≡ Some y → x ≡ y
same_some o x y p q = cc

pub answer_size : (rules : List MappingRule) (list new : List ℕ) → server_answer rules list ≡ Some new
    → (0 < length new) × (length new ≤ length list + 1)
answer_size rules list new = grind (arith, shown, cond_both, as_list_is, same_some, with_zeros, length-listed)

-- the list that is answered once no item is left
pub answered : {A : Type 0} (rules : List MappingRule) (list so_far new : List ℕ) (left : List (Item A))
    → IsSoFar rules list so_far left → left ≡ [] → or_zero so_far ≡ new → server_answer rules list ≡ Some new
answered {A} rules list so_far new left until end made =
    grind (arith, all_ok, zeros_of, append-nil, list_of-listing, as_list_is, names_of)

-- no list is answered where an item is an error
pub unanswered : {A : Type 0} (rules : List MappingRule) (list so_far : List ℕ) (left rest : List (Item A))
    (error : Error A) → IsSoFar rules list so_far left → left ≡ Err error ∷ rest → server_answer rules list ≡ None
unanswered {A} rules list so_far left rest error until one = grind (arith, all_ok, list_of-listing)
