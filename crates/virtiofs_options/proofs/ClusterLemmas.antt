-- Short options in one word, one letter after another.
use Rattle.std.proofs.Common.{arith}
use Rattle.std.proofs.Common.{◌≡◌, ℕ, List, [], ◌∷◌, ◌++◌, Bool, true, false, Some, None, option_map, find, bytes_eq, slice_get, append_assoc}
use Rattle.std.proofs.lemmas.Slice.Eq.{bytes_eq-Decides}
use Rattle.virtiofs_options.specs.Clusters.{after_letter, cluster, is_bare, short_of}
use Rattle.virtiofs_options.specs.Parts.{is_last}
use Rattle.virtiofs_options.specs.declared.options.Known.{Known}
use Rattle.virtiofs_options.specs.declared.options.Options.{Options}

some-same : {X : Type 0} (x y : X) → Some y ≡ Some x → y ≡ x
some-same x y same = cc

-- what is found passes
pub find-passes : {X : Type 0} (p : X → Bool) (xs : List X) (x : X) → find p xs ≡ Some x → p x ≡ true
find-passes p [] x found = grind arith
find-passes p (y ∷ xs) x found = grind (arith, find-passes p xs x, some-same)

-- what follows the letter of an option that is found
pub after-short : (options : Options) (letter : ℕ) (rest : List ℕ) (row : Known) → short_of options letter ≡ Some row
    → after_letter row.name.now (letter ∷ rest) ≡ Some rest
after-short options letter rest row found = grind (arith, bytes_eq-Decides, find-passes, bytes_eq)

-- an option without a value, and letters after it
pub cluster-bare : (options : Options) (letters rest : List ℕ) (letter : ℕ) (row : Known) (so_far : List (List ℕ × Bool))
    → cluster options letters ≡ option_map (λ more. so_far ++ more) (cluster options (letter ∷ rest))
    → short_of options letter ≡ Some row → is_bare row.takes ≡ true → is_last row.sets ≡ false
    → cluster options letters ≡ option_map (λ more. (so_far ++ (row.name.now, false) ∷ []) ++ more) (cluster options rest)
cluster-bare options letters rest letter row so_far before found bare last = grind (arith, option_map, append_assoc)

-- the letter and the text after it make what is left
pub step-is : (options : Options) (left : List ℕ) (letter : ℕ) (rest : List ℕ) (row : Known)
    → Some letter ≡ slice_get left 0 → short_of options letter ≡ Some row → Some rest ≡ after_letter row.name.now left
    → left ≡ letter ∷ rest
step-is options [] letter rest row first found after = grind arith
step-is options (x ∷ tail) letter rest row first found after = grind (arith, some-same, after-short)

-- where a letter is that of an option, a text follows it
pub step-some : (options : Options) (left : List ℕ) (letter : ℕ) (row : Known)
    → Some letter ≡ slice_get left 0 → short_of options letter ≡ Some row → None ≡ after_letter row.name.now left → ⊥
step-some options [] letter row first found after = grind arith
step-some options (x ∷ tail) letter row first found after = grind (arith, some-same, after-short)

pub before-at : (options : Options) (letters left rest : List ℕ) (letter : ℕ) (so_far : List (List ℕ × Bool)) → left ≡ letter ∷ rest
    → cluster options letters ≡ option_map (λ more. so_far ++ more) (cluster options left)
    → cluster options letters ≡ option_map (λ more. so_far ++ more) (cluster options (letter ∷ rest))
before-at options letters left rest letter so_far is before = cc
