-- Texts that are cut at a byte.
use Rattle.std.proofs.Common.{◌≡◌, ◌≢◌, ℕ, ◌+◌, ◌-◌, ◌<◌, eqb, List, [], ◌∷◌, ◌++◌, length, take, drop, get_or, false, true, All, Bor, Option, None, Some, is_some, refl, ap, ◌∙◌, arith}
use Rattle.std.proofs.lemmas.Bool.Decides.{nat_tests}
use Rattle.std.proofs.lemmas.List.{take-append-drop, drop_more, get_or-take, length-take, take_rest}
use Rattle.std.proofs.lemmas.List.Elements.{All-from_get_or, All-weaker, recursion_from_All}
use Rattle.std.proofs.lemmas.List.Splits.{length-slice_split, slice_split_at, slice_split_none}
use Rattle.virtiofs_map.specs.Separator.{Lacks, split_at_each}
use Rattle.virtiofs_host.specs.CutParts.{parts_left}

-- a text with a byte c does not lack it
pub Lacks-not : (c : ℕ) (a x : List ℕ) → Lacks c (a ++ c ∷ x) → ⊥
Lacks-not c [] x lacks = lacks.0 refl
Lacks-not c (b ∷ bs) x lacks = Lacks-not c bs x lacks.1

-- a text has one first byte c
pub cut_one : (c : ℕ) (a b x y : List ℕ) → a ++ c ∷ x ≡ b ++ c ∷ y → Lacks c a → Lacks c b → (a ≡ b) × (x ≡ y)
cut_one c [] [] x y same left right = (refl, cc)
cut_one c [] (d ∷ ds) x y same left right = let first : d ≡ c = cc in absurd (right.0 first)
cut_one c (d ∷ ds) [] x y same left right = let first : d ≡ c = cc in absurd (left.0 first)
cut_one c (d ∷ ds) (e ∷ es) x y same left right = grind (arith, cut_one c ds es x y)

-- bytes that are not c, as a test
passes_not : (c : ℕ) (xs : List ℕ) → All (λ b. b ≢ c) xs → All (λ b. eqb b c ≡ false) xs
passes_not c xs all = All-weaker (λ b. b ≢ c) (λ b. eqb b c ≡ false) (λ b other. grind (arith, nat_tests, other)) xs all

-- a text without the byte c
pub whole_lacks : (c : ℕ) (text : List ℕ) → ((k : ℕ) → k < length text → get_or text k 0 ≢ c) → Lacks c text
whole_lacks c text none = recursion_from_All (λ b. b ≢ c) text (All-from_get_or (λ b. b ≢ c) text 0 none)

pub whole_part : (c : ℕ) (text : List ℕ) → ((k : ℕ) → k < length text → get_or text k 0 ≢ c)
    → split_at_each c text ≡ text ∷ []
whole_part c text none =
    slice_split_none (λ b. eqb b c) text (passes_not _ _ (All-from_get_or (λ b. b ≢ c) text 0 none))

before : (c : ℕ) (text : List ℕ) (place : ℕ) → ((k : ℕ) → k < place → get_or text k 0 ≢ c)
    → All (λ b. b ≢ c) (take place text)
before c text place none = All-from_get_or (λ b. b ≢ c) (take place text) 0
    (grind (arith, length-take, get_or-take))

-- a text whose first byte c stands at that place
pub front_lacks : (c : ℕ) (text : List ℕ) (place : ℕ) → ((k : ℕ) → k < place → get_or text k 0 ≢ c)
    → Lacks c (take place text)
front_lacks c text place none = recursion_from_All (λ b. b ≢ c) (take place text) (before c text place none)

pub cut_whole : (c : ℕ) (text : List ℕ) (place : ℕ) → place < length text → get_or text place 0 ≡ c
    → text ≡ take place text ++ c ∷ take (length text - (place + 1)) (drop (place + 1) text)
cut_whole c text place below here = grind (arith, take-append-drop, drop_more, take_rest)

pub cut_parts : (c : ℕ) (text : List ℕ) (place : ℕ) → place < length text → get_or text place 0 ≡ c
    → ((k : ℕ) → k < place → get_or text k 0 ≢ c)
    → split_at_each c text
    ≡ take place text ∷ split_at_each c (take (length text - (place + 1)) (drop (place + 1) text))
cut_parts c text place below here none = ap (split_at_each c) (cut_whole c text place below here)
    ∙ slice_split_at (λ b. eqb b c) (take place text) c _ (grind (arith, passes_not, before)) (grind (arith, nat_tests))

-- what is left has a part at least
pub some_parts : (c : ℕ) (left : Option (Bor (List ℕ))) → is_some left ≡ true → parts_left c left ≢ []
some_parts c None some = cc
some_parts c (Some text) some = λ same. omega (arith, ap length same, length-slice_split (λ b. eqb b c) text.now)

-- what is cut off first
pub ruleset first_cut = (whole_lacks, whole_part, front_lacks, cut_whole, cut_parts)

-- that it is one alone
pub ruleset one_cut = (Lacks-not, cut_one)
