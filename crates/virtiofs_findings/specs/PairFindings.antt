-- What is found between two guests of one directory, which have these numbers.
use Rattle.std.specs.Prelude.{◌≡◌, ℕ, true, false, if◌then◌else◌, List, [], ◌∷◌, ◌++◌, Option, Some, None, option_map}
use Rattle.std.specs.Option.{option_or}
use Rattle.virtiofs_map.specs.Audit.{IsSeen, IsShared}
use Rattle.virtiofs_map.specs.Rule.{Bad, MappingRule, Okay}
use Rattle.virtiofs_findings.specs.AclNames.{acl_bytes}
use Rattle.virtiofs_findings.specs.IdFindings.{FindsMeeting}
use Rattle.virtiofs_findings.specs.NameFindings.{FindsLeast}
use Rattle.virtiofs_findings.specs.declared.finding.Finding.{Finding}
use Rattle.virtiofs_findings.specs.Findings.{told_by}
use Rattle.virtiofs_findings.specs.declared.finding.About.TheVariants.{Pair}
use Rattle.virtiofs_findings.specs.declared.finding.Evidence.TheVariants.{Ids}
use Rattle.virtiofs_findings.specs.declared.names.acl.AclName.{AclName}
use Rattle.virtiofs_findings.specs.declared.names.acl.AclName.TheVariants.{Access, Default}
use Rattle.virtiofs_findings.specs.declared.pairs.Passing.{Passing}
use Rattle.virtiofs_findings.specs.declared.finding.Kind.TheVariants.{IdOfBoth, ShownToOther, NameOfBoth}
use Rattle.virtiofs_findings.specs.declared.ids.found.IdsFound.{IdsFound}
use Rattle.virtiofs_findings.specs.declared.ids.kind.IdKind.{IdKind}
use Rattle.virtiofs_findings.specs.declared.ids.kind.IdKind.TheVariants.{Users, Groups}
use Rattle.virtiofs_findings.specs.declared.setup.IdSetUp.{IdSetUp}
use Rattle.virtiofs_findings.specs.declared.setup.SetUp.{SetUp}

-- what is found where both are there; nothing where one of the two is not
abbrev pub FindsBoth : {R F : Type 0} → (R → R → List F → Type 0) → Option R → Option R → List F → Type 0
FindsBoth Finds None second found = found ≡ []
FindsBoth Finds (Some one) None found = found ≡ []
FindsBoth Finds (Some one) (Some other) found = Finds one other found

-- the ids of the first guest that are, on the host, ids which the second reaches too
abbrev pub FindsIdsOfBoth : {A : Type 0} → ℕ → ℕ → IdKind → IdSetUp A → IdSetUp A → List (Finding A) → Type 0
FindsIdsOfBoth {A} number number_2 kind one other found =
    (met : Option (IdsFound A)) × FindsMeeting one.map one.ranges.items other.map other.ranges.items met
    × (found ≡ told_by (Pair number number_2) IdOfBoth (option_map (Ids kind false) met))

-- names of each that lists of the other show, and names that lead to one name of the host
pub record FindsNamesBetween {A : Type 0} (number number_2 : ℕ) (one other : List MappingRule)
    (found : List (Finding A)) : Type 0 where
  pub of_seen : List (Finding A)
  pub of_seen_back : List (Finding A)
  pub of_shared : List (Finding A)
  pub seen : FindsLeast (Pair number number_2) ShownToOther (IsSeen one other) of_seen
  pub seen_back : FindsLeast (Pair number_2 number) ShownToOther (IsSeen other one) of_seen_back
  pub shared : FindsLeast (Pair number number_2) NameOfBoth (IsShared one other) of_shared
  pub whole : found ≡ of_seen ++ of_seen_back ++ of_shared

-- the rule that passes each name as it is
abbrev pub passes_all : List MappingRule
passes_all = record { kind = Okay; client = true; server = true; key = []; prepend = [] } ∷ []

-- the rule that refuses the name of an access control list, and hides it
abbrev pub refuses : AclName → MappingRule
refuses name = record { kind = Bad; client = true; server = true; key = acl_bytes name; prepend = acl_bytes name }

-- the rules that pass each other name as it is
abbrev pub passes_others : List MappingRule
passes_others = refuses Access ∷ refuses Default ∷ passes_all

-- these two lists of rules
pub record IsPassing {A : Type 0} (passing : Passing A) : Type 0 where
  pub all : passing.all ≡ passes_all
  pub others : passing.others ≡ passes_others

-- the rules that the names of a guest meet: its own, or else, where extended attributes are on, those that pass all names,
-- but for those of access control lists that are off
abbrev pub rules_met : {A : Type 0} → SetUp A → Option (List MappingRule)
rules_met set =
    option_or (option_map (λ it. it.map) set.names)
    (if set.passes then Some (if set.posix_acl then passes_all else passes_others) else None)

-- what is found between two guests, in order
pub record FindsPair {A : Type 0} (number number_2 : ℕ) (first second : SetUp A) (found : List (Finding A)) : Type
    0 where
  pub of_users : List (Finding A)
  pub of_groups : List (Finding A)
  pub of_names : List (Finding A)
  pub users : FindsBoth (FindsIdsOfBoth number number_2 Users) first.users second.users of_users
  pub groups : FindsBoth (FindsIdsOfBoth number number_2 Groups) first.groups second.groups of_groups
  pub names : FindsBoth (FindsNamesBetween number number_2) (rules_met first) (rules_met second) of_names
  pub whole : found ≡ of_users ++ of_groups ++ of_names
