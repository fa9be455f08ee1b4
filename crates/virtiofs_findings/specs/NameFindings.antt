-- What an audit of the names of attributes finds.
use Rattle.std.specs.Prelude.{◌≡◌, ◌⊎◌, ℕ, ◌+◌, ◌<◌, ◌≤◌, List, [], ◌++◌, length, codes, option_map, Option, Some, None}
use Rattle.std.specs.List.{range_with_len}
use Rattle.virtiofs_map.specs.Audit.{IsLeast, AnswersLeast, Within, IsLost, IsStray, Terminated, Decides}
use Rattle.virtiofs_map.specs.Rule.{MappingRule}
use Rattle.virtiofs_findings.specs.declared.finding.Finding.{Finding}
use Rattle.virtiofs_findings.specs.Findings.{told_by, Each}
use Rattle.virtiofs_findings.specs.declared.finding.About.{About}
use Rattle.virtiofs_findings.specs.declared.finding.About.TheVariants.{Guest}
use Rattle.virtiofs_findings.specs.declared.finding.Evidence.{Evidence}
use Rattle.virtiofs_findings.specs.declared.finding.Evidence.TheVariants.{Plain, Name, Rule}
use Rattle.virtiofs_findings.specs.declared.finding.Kind.{Kind}
use Rattle.virtiofs_findings.specs.declared.finding.Kind.TheVariants.{NoRule, NotListed, ListedElsewhere, IdleRule}
use Rattle.virtiofs_findings.specs.declared.names.found.LeastName.{LeastName}

-- None where no name is bad, and else the least bad name, of all and of those that begin with `user.`, `trusted.`,
-- `security.` and `system.`
pub record IsLeastName {A : Type 0} (bad : List ℕ → Type 0) (found : LeastName A) : Type 0 where
  pub all : IsLeast bad found.name
  pub user : AnswersLeast (Within (codes "user.") bad) found.user
  pub trusted : AnswersLeast (Within (codes "trusted.") bad) found.trusted
  pub security : AnswersLeast (Within (codes "security.") bad) found.security
  pub system : AnswersLeast (Within (codes "system.") bad) found.system

abbrev pub FindsName : {A : Type 0} → (List ℕ → Type 0) → Option (LeastName A) → Type 0
FindsName bad None = (name : List ℕ) → ¬ bad name
FindsName bad (Some found) = IsLeastName bad found

-- it is the finding of the least bad name, or there is none and nothing is found
abbrev pub FindsLeast : {A : Type 0} → About → Kind → (List ℕ → Type 0) → List (Finding A) → Type 0
FindsLeast {A} about kind bad found =
    (least : Option (LeastName A)) × FindsName bad least × (found ≡ told_by about kind (option_map Name least))

-- The rule at the place `part` of a map is one of those that the written rule at `place` stands for. The map has
-- `written` written rules: each stands for the rule at its own place, and the last one for all from its place on.
abbrev pub IsPartOf : List MappingRule → ℕ → ℕ → ℕ → Type 0
IsPartOf rules written place part = (place ≤ part) × (part < length rules) × ((part ≡ place) ⊎ (place + 1 ≡ written))

-- some rule that the written rule at that place stands for decides a name
abbrev pub DecidesWritten : List MappingRule → ℕ → ℕ → Type 0
DecidesWritten rules written place = (part : ℕ) × IsPartOf rules written place part × Decides rules part

-- nothing is found where that holds, and else the finding of that kind about the guest of that number
abbrev pub FindsUnless : {A : Type 0} → Type 0 → ℕ → Kind → Evidence A → List (Finding A) → Type 0
FindsUnless Holds number kind evidence found =
    (Holds × (found ≡ [])) ⊎ ((¬ Holds) × (found ≡ told_by (Guest number) kind (Some evidence)))

-- the written rule at that place, counted from 0, is found unless it decides a name; so is each, in order
abbrev pub FindsIdleAt : {A : Type 0} → ℕ → List MappingRule → ℕ → ℕ → ℕ → List (Finding A) → Type 0
FindsIdleAt number rules written nth place =
    FindsUnless (DecidesWritten rules written place) number IdleRule (Rule place)

abbrev pub FindsIdle : {A : Type 0} → ℕ → List MappingRule → ℕ → List (Finding A) → Type 0
FindsIdle number rules written = Each (FindsIdleAt number rules written) 1 (range_with_len 0 written)

-- it is found that some names have no rule, unless each has one
abbrev pub FindsUnruled : {A : Type 0} → ℕ → List MappingRule → List (Finding A) → Type 0
FindsUnruled number rules = FindsUnless (Terminated rules) number NoRule Plain

-- of the names under these rules, which are that many written ones: whether each has a rule, which is not listed back,
-- which is listed under a name that leads elsewhere, and which rules decide none
pub record FindsNames {A : Type 0} (number : ℕ) (rules : List MappingRule) (written : ℕ) (found : List (Finding A)) : Type 0 where
  pub of_unruled : List (Finding A)
  pub of_lost : List (Finding A)
  pub of_stray : List (Finding A)
  pub of_idle : List (Finding A)
  pub unruled : FindsUnruled number rules of_unruled
  pub lost : FindsLeast (Guest number) NotListed (IsLost rules) of_lost
  pub stray : FindsLeast (Guest number) ListedElsewhere (IsStray rules) of_stray
  pub idle : FindsIdle number rules written of_idle
  pub whole : found ≡ of_unruled ++ of_lost ++ of_stray ++ of_idle
