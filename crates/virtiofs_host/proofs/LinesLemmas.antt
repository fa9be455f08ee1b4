-- Lines that say something, and lines that say nothing, one after another.
use Rattle.std.proofs.Common.{arith, ◌≡◌, ℕ, List, [], ◌∷◌, ◌++◌, Option, Some, refl, sym, subst, append_assoc}
use Rattle.std.proofs.lemmas.List.{append-nil}
use Rattle.virtiofs_host.specs.Lines.{AllSaid, FirstSaid}

-- whatever lines still say, all lines say that after the values so far
abbrev pub SaidSoFar : {V : Type 0} → (List ℕ → V → Type 0) → List (List ℕ) → List (List ℕ) → List V → Type 0
SaidSoFar {V} Says all left values = (others : List V) → AllSaid Says left others → AllSaid Says all (values ++ others)

-- a line more, that says a value
pub said_more : {V : Type 0} (Says : List ℕ → V → Type 0) (all left more : List (List ℕ)) (line : List ℕ)
    (values : List V) (value : V) → left ≡ line ∷ more → SaidSoFar Says all left values → Says line value
    → SaidSoFar Says all more (values ++ value ∷ [])
said_more {V} Says all left more line values value is so_far says others said =
    let here : AllSaid Says (line ∷ more) (value ∷ others) = (Some value, says, (others, refl, said)) in
    subst (AllSaid Says all) (sym (append_assoc values (value ∷ []) others)) (grind arith)

-- no line is left
pub all_said : {V : Type 0} (Says : List ℕ → V → Type 0) (all left : List (List ℕ)) (values : List V) → left ≡ []
    → SaidSoFar Says all left values → AllSaid Says all values
all_said Says all left values none so_far =
    let here : AllSaid Says left [] = grind arith in
    subst (AllSaid Says all) (append-nil values) (so_far [] here)

-- what the first line says that is left, is what the first of all lines says
abbrev pub NoneSoFar : {V : Type 0} → (List ℕ → V → Type 0) → List (List ℕ) → List (List ℕ) → Type 0
NoneSoFar {V} Says all left = (first : Option V) → FirstSaid Says left first → FirstSaid Says all first
