-- Searches by loops over a slice.
use Rattle.std.proofs.Common.{arith}
use Rattle.std.proofs.Common.{◌≡◌, ◌<◌, ◌+◌, ℕ, List, [], ◌∷◌, Bool, true, false, if◌then◌else◌, Some, None, is_some, refl, find, take, drop, get_or, length, sym, ap, ◌∙◌}
use Rattle.std.proofs.lemmas.List.{take_more, take-append-drop}
use Rattle.std.proofs.lemmas.List.Folds.{find-append}
use Rattle.std.specs.List.{list_any}
use Rattle.std.specs.Option.{option_or}

module _ {X : Type 0} (p : X → Bool) (xs : List X) (i : ℕ) (d : X) where
  find-more : i < length xs → find p (take i xs) ≡ None
      → find p (take (i + 1) xs) ≡ (if p (get_or xs i d) then Some (get_or xs i d) else None)
  find-more below before =
      ap (find p) (take_more xs i d below) ∙ find-append p (take i xs) (get_or xs i d ∷ [])
      ∙ ap (λ o. option_or o (find p (get_or xs i d ∷ []))) before

  pub find-next : i < length xs → find p (take i xs) ≡ None → p (get_or xs i d) ≡ false
      → find p (take (i + 1) xs) ≡ None
  find-next below before fails = grind (arith, find-more)

  pub find-here : i < length xs → find p (take i xs) ≡ None → p (get_or xs i d) ≡ true
      → find p xs ≡ Some (get_or xs i d)
  find-here below before passes =
      ap (find p) (sym (take-append-drop (i + 1) xs)) ∙ find-append p (take (i + 1) xs) (drop (i + 1) xs)
      ∙ ap (λ o. option_or o (find p (drop (i + 1) xs)))
      (find-more below before ∙ ap (λ b. if b then Some (get_or xs i d) else None) passes)

-- an element passes if one is found
pub any-find : {X : Type 0} (p : X → Bool) (xs : List X) → list_any p xs ≡ is_some (find p xs)
any-find p [] = refl
any-find p (x ∷ xs) = grind (arith, any-find p xs)
