-- Lists, item by item, and tests.
use Rattle.std.proofs.lemmas.Grind.{common_steps}
use Rattle.std.proofs.Common.{◌≡◌, ◌≢◌, ℕ, ◌+◌, ◌<◌, ◌≤◌, List, [], ◌∷◌, ◌++◌, length, take, get_or, All, subst, Bool, true, false}
use Rattle.std.proofs.Common.{sym, ap, ◌∙◌, arith, append_assoc, rules}
use Rattle.std.proofs.Common.{◌↔◌, not, IsTrue}
use Rattle.std.proofs.lemmas.Bool.{true≢false}
use Rattle.std.proofs.lemmas.List.{take_all, take_more}
use Rattle.std.proofs.lemmas.List.Elements.{All-more}
use Rattle.std.proofs.lemmas.Option.{slice_get-get_or}
use Rattle.std.specs.Bool.{◌==◌}
use Rattle.std.specs.List.{AllZip, Any}
use Rattle.virtiofs_map.proofs.ForCallers.{AllZip-push}
use Rattle.virtiofs_findings.specs.Lists.{AllZip3}

-- ---- one more item

-- the items so far, and the one at that place
pub more_at : {A : Type 0} (xs : List A) (i : ℕ) (x : A) → x ≡ get_or xs i x → i < length xs
    → take (i + 1) xs ≡ take i xs ++ x ∷ []
more_at xs i x is below = take_more xs i x below ∙ ap (λ y. take i xs ++ y ∷ []) (sym is)

-- the item at a place
pub ruleset at_a_place = (slice_get-get_or)

-- so it is of each item so far
pub all_at : {A : Type 0} (P : A → Type 0) (xs : List A) (i : ℕ) (x : A) → x ≡ get_or xs i x → i < length xs
    → All P (take i xs) → P x → All P (take (i + 1) xs)
all_at P xs i x is below all holds = All-more P xs i x below all (subst P is holds)

-- so it is of the items so far of two lists, and of three
pub zip_at : {X Y : Type 0} (R : X → Y → Type 0) (xs : List X) (ys : List Y) (i : ℕ) (d : X) (y : Y)
    → i < length xs → AllZip R (take i xs) ys → R (get_or xs i d) y → AllZip R (take (i + 1) xs) (ys ++ y ∷ [])
zip_at R xs ys i d y below all one = rw (take_more xs i d below) (AllZip-push R (take i xs) ys (get_or xs i d) y all one)

pub zip_more : {X Y : Type 0} (R : X → Y → Type 0) (xs : List X) (ys : List Y) (i : ℕ) (x : X) (y : Y)
    → x ≡ get_or xs i x → i < length xs → AllZip R (take i xs) ys → R x y → AllZip R (take (i + 1) xs) (ys ++ y ∷ [])
zip_more R xs ys i x y is below all one = rw (more_at xs i x is below) (AllZip-push R (take i xs) ys x y all one)

zip3_push : {X Y Z : Type 0} (R : X → Y → Z → Type 0) (xs : List X) (ys : List Y) (zs : List Z) (x : X) (y : Y) (z : Z)
    → AllZip3 R xs ys zs → R x y z → AllZip3 R (xs ++ x ∷ []) (ys ++ y ∷ []) (zs ++ z ∷ [])
zip3_push R [] [] [] x y z all one = (one, tt)
zip3_push R [] [] (c ∷ zs) x y z all one = absurd all
zip3_push R [] (b ∷ ys) zs x y z all one = absurd all
zip3_push R (a ∷ xs) [] zs x y z all one = absurd all
zip3_push R (a ∷ xs) (b ∷ ys) [] x y z all one = absurd all
zip3_push R (a ∷ xs) (b ∷ ys) (c ∷ zs) x y z (here, all) one = (here, zip3_push R xs ys zs x y z all one)

pub zip3_more : {X Y Z : Type 0} (R : X → Y → Z → Type 0) (xs : List X) (ys : List Y) (zs : List Z) (i : ℕ) (x : X) (y : Y)
    (z : Z) → x ≡ get_or xs i x → y ≡ get_or ys i y → i < length xs → length ys ≡ length xs
    → AllZip3 R (take i xs) (take i ys) zs → R x y z → AllZip3 R (take (i + 1) xs) (take (i + 1) ys) (zs ++ z ∷ [])
zip3_more R xs ys zs i x y z is is_too below same all one =
    rw (more_at xs i x is below, more_at ys i y is_too (omega (arith, below, same)))
    (zip3_push R (take i xs) (take i ys) zs x y z all one)

-- ---- empty lists

-- whether a list is empty
pub is_none : {T : Type 0} (xs : List T) → true ≡ (length xs == 0) → ¬ (xs ≢ [])
is_none xs none some = grind (arith, common_steps)

pub is_some : {T : Type 0} (xs : List T) → false ≡ (length xs == 0) → xs ≢ []
is_some xs some none = grind arith

pub is_empty_here : {T : Type 0} (xs : List T) (r : Bool) → r ≡ (length xs == 0) → r ≡ true → xs ≡ []
is_empty_here xs r e is = grind (arith, common_steps, is_none)

-- ---- items that are added

-- in two parts
pub in_two : {T : Type 0} (old x y one new : List T) → one ≡ old ++ x → new ≡ one ++ y → new ≡ old ++ (x ++ y)
in_two old x y one new first second = second ∙ ap (λ xs. xs ++ y) first ∙ append_assoc old x y

-- in three parts
pub in_three : {T : Type 0} (old x y z one two new : List T) → one ≡ old ++ x → two ≡ one ++ y → new ≡ two ++ z
    → new ≡ old ++ (x ++ y ++ z)
in_three old x y z one two new first second third = search (rules, in_two)

-- ---- tests

-- a test that fails
pub decides_not : {P : Type 0} (test : Bool) → IsTrue test ↔ P → test ≡ false → ¬ P
decides_not test says fails holds = true≢false (sym (says.1 holds) ∙ fails)

-- what denies a test
pub denied : {P : Type 0} (test : Bool) → IsTrue test ↔ P → IsTrue (not test) ↔ (¬ P)
denied test says = grind arith

-- where no item up to the end has a property, none has
pub any_none : {X : Type 0} (P : X → Type 0) (xs : List X) (i : ℕ) → length xs ≤ i → All (λ x. ¬ P x) (take i xs)
    → ¬ Any P xs
any_none P xs i over none (k, x, below, here, holds) =
    (rw (take_all i xs over) at none) k x below (subst P (sym here) holds)
