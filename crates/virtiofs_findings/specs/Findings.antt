-- Findings: what is found of each guest, one after the other.
use Rattle.std.specs.Prelude.{◌≡◌, ℕ, ◌+◌, List, [], ◌∷◌, ◌++◌, Contains, Option, Some, None}
use Rattle.std.specs.List.{Any}
use Rattle.virtiofs_findings.specs.declared.finding.About.{About}
use Rattle.virtiofs_findings.specs.declared.finding.Evidence.{Evidence}
use Rattle.virtiofs_findings.specs.declared.finding.Finding.{Finding}
use Rattle.virtiofs_findings.specs.declared.finding.Kind.{Kind}

-- the finding of that kind about whom it is, if it is told by something
abbrev pub told_by : {A : Type 0} → About → Kind → Option (Evidence A) → List (Finding A)
told_by about kind None = []
told_by about kind (Some it) = record { about = about; kind = kind; evidence = it } ∷ []

-- what is told of each, one after the other, where the first has that number
abbrev pub Each : {S F : Type 0} → (ℕ → S → List F → Type 0) → ℕ → List S → List F → Type 0
Each Tells number [] told = told ≡ []
Each {F = F} Tells number (it ∷ others) told =
    (first : List F) × (rest : List F) × Tells number it first × Each Tells (number + 1) others rest
    × (told ≡ first ++ rest)

-- something is found of a kind that is not accepted
abbrev pub IsOfOther : {A : Type 0} → List Kind → Finding A → Type 0
IsOfOther accepted finding = ¬ Contains accepted finding.kind

abbrev pub IsFound : {A : Type 0} → List Kind → List (Finding A) → Type 0
IsFound accepted found = Any (IsOfOther accepted) found

-- something is found of a kind that is accepted
abbrev pub IsOfKind : {A : Type 0} → List Kind → Finding A → Type 0
IsOfKind accepted finding = Contains accepted finding.kind

abbrev pub HasAccepted : {A : Type 0} → List Kind → List (Finding A) → Type 0
HasAccepted accepted found = Any (IsOfKind accepted) found
