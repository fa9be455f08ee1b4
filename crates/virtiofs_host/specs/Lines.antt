-- Texts of lines, of which some say a value and the others are passed over.
use Rattle.std.specs.Prelude.{◌≡◌, ℕ, List, [], ◌∷◌, ◌++◌, Option, None, Some, MatchOption, option_to_list}
use Rattle.virtiofs_map.specs.Separator.{split_at_each}

-- the lines of a text: what stands before, between and after its line feeds
abbrev pub lines : List ℕ → List (List ℕ)
lines text = split_at_each 10 text

-- the parts of a line before, between and after its colons
abbrev pub colon_fields : List ℕ → List (List ℕ)
colon_fields line = split_at_each 58 line

-- what a line says, or that it says nothing
abbrev pub Tells : {V : Type 0} → (List ℕ → V → Type 0) → List ℕ → Option V → Type 0
Tells {V} Says line told = MatchOption told ((value : V) → ¬ Says line value) (Says line)

-- the values are those that the lines say, in the order of the lines
abbrev pub AllSaid : {V : Type 0} → (List ℕ → V → Type 0) → List (List ℕ) → List V → Type 0
AllSaid Says [] values = values ≡ []
AllSaid {V} Says (line ∷ more) values =
    (told : Option V) × Tells Says line told
    × ((others : List V) × (values ≡ option_to_list told ++ others) × AllSaid Says more others)

-- the value is that of the first line that says one; None where no line does
abbrev pub FirstSaid : {V : Type 0} → (List ℕ → V → Type 0) → List (List ℕ) → Option V → Type 0
FirstSaid Says [] first = first ≡ None
FirstSaid {V} Says (line ∷ more) first =
    (told : Option V) × Tells Says line told
    × MatchOption told (FirstSaid Says more first) (λ value. first ≡ Some value)
