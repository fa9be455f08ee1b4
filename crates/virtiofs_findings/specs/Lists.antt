-- Lists: which item has a property, and what is added.
use Rattle.std.specs.Prelude.{◌≡◌, ◌⊎◌, ⊤, ℕ, List, [], ◌∷◌, ◌++◌}

-- it holds of the items of three lists, place by place
abbrev pub AllZip3 : {X Y Z : Type 0} → (X → Y → Z → Type 0) → List X → List Y → List Z → Type 0
AllZip3 R [] [] [] = ⊤
AllZip3 R (x ∷ xs) (y ∷ ys) (z ∷ zs) = R x y z × AllZip3 R xs ys zs
AllZip3 R xs ys zs = ⊥

-- some two items at the same place of both lists have it
abbrev pub AnyTwoHave : {A B : Type 0} → (A → B → Type 0) → List A → List B → Type 0
AnyTwoHave R [] ys = ⊥
AnyTwoHave R (x ∷ xs) [] = ⊥
AnyTwoHave R (x ∷ xs) (y ∷ ys) = R x y ⊎ AnyTwoHave R xs ys

-- items for which `IsAdded` holds were added
pub record Adds {T : Type 0} (IsAdded : List T → Type 0) (before after : List T) : Type 0 where
  pub more : List T
  pub is : IsAdded more
  pub added : after ≡ before ++ more

-- texts one after the other
abbrev pub joined : List (List ℕ) → List ℕ
joined [] = []
joined (text ∷ []) = text
joined (text ∷ next ∷ texts) = text ++ joined (next ∷ texts)
