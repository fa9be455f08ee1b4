-- Two lists of which each element goes with the one at its place.
use Rattle.std.proofs.Common.{arith, zero, suc, ◌≡◌, List, [], ◌∷◌, ◌++◌, length, Contains, refl, subst}
use Rattle.std.specs.List.{AllZip}

pub AllZip-push : {X Y : Type 0} (R : X → Y → Type 0) (xs : List X) (ys : List Y) (x : X) (y : Y) → AllZip R xs ys
    → R x y → AllZip R (xs ++ x ∷ []) (ys ++ y ∷ [])
AllZip-push R [] [] x y all one = (one, tt)
AllZip-push R [] (b ∷ ys) x y all one = absurd all
AllZip-push R (a ∷ xs) [] x y all one = absurd all
AllZip-push R (a ∷ xs) (b ∷ ys) x y all one = (all.0, AllZip-push R xs ys x y all.1 one)

-- where an element goes with only one, a list goes with only one list
pub AllZip-one : {X Y : Type 0} (R : X → Y → Type 0) → ((x : X) (y z : Y) → R x y → R x z → y ≡ z)
    → (xs : List X) (ys zs : List Y) → AllZip R xs ys → AllZip R xs zs → ys ≡ zs
AllZip-one R one [] [] [] first second = refl
AllZip-one R one [] (y ∷ ys) zs first second = absurd first
AllZip-one R one [] [] (z ∷ zs) first second = absurd second
AllZip-one R one (x ∷ xs) [] zs first second = absurd first
AllZip-one R one (x ∷ xs) (y ∷ ys) [] first second = absurd second
AllZip-one R one (x ∷ xs) (y ∷ ys) (z ∷ zs) first second = grind (arith, AllZip-one R one xs ys zs first.1 second.1)

-- the lists are as long, and each element goes with one
pub AllZip-length : {X Y : Type 0} (R : X → Y → Type 0) (xs : List X) (ys : List Y) → AllZip R xs ys
    → length xs ≡ length ys
AllZip-length R [] [] all = refl
AllZip-length R [] (y ∷ ys) all = absurd all
AllZip-length R (x ∷ xs) [] all = absurd all
AllZip-length R (x ∷ xs) (y ∷ ys) all = omega (arith, AllZip-length R xs ys all.1)

pub AllZip-contains : {X Y : Type 0} (R : X → Y → Type 0) (xs : List X) (ys : List Y) (x : X) → AllZip R xs ys
    → Contains xs x → (y : Y) × R x y
AllZip-contains R [] ys x all (k, below, here) = absurd (omega arith)
AllZip-contains R (a ∷ xs) [] x all listed = absurd all
AllZip-contains R (a ∷ xs) (b ∷ ys) x all (zero, below, here) = (b, subst (λ z. R z b) here all.0)
AllZip-contains R (a ∷ xs) (b ∷ ys) x all (suc k, below, here) =
    AllZip-contains R xs ys x all.1 (k, omega arith, here)
