-- Access control lists whose attributes the rules pass under other names.
use Rattle.std.specs.Prelude.{◌≡◌, ◌≢◌, ℕ, Bool, true, false, List, [], ◌++◌, codes, option_map, Option, Some, None}
use Rattle.std.specs.declared.vec.Vec.{Vec}
use Rattle.virtiofs_map.specs.Names.{Passes, client_answer}
use Rattle.virtiofs_map.specs.Rule.{MappingRule}
use Rattle.virtiofs_findings.specs.declared.finding.Finding.{Finding}
use Rattle.virtiofs_findings.specs.Findings.{told_by}
use Rattle.virtiofs_findings.specs.declared.finding.About.TheVariants.{Guest}
use Rattle.virtiofs_findings.specs.declared.finding.Evidence.TheVariants.{Renamed}
use Rattle.virtiofs_findings.specs.declared.finding.Kind.TheVariants.{AclRenamed}
use Rattle.virtiofs_findings.specs.declared.names.acl.AclName.{AclName}
use Rattle.virtiofs_findings.specs.declared.names.acl.AclName.TheVariants.{Access, Default}
use Rattle.virtiofs_findings.specs.declared.setup.NamesSetUp.{NamesSetUp}

-- the names that Linux takes for access control lists: of a file, and of what is made in a directory
abbrev pub acl_bytes : AclName → List ℕ
acl_bytes Access = codes "system.posix_acl_access"
acl_bytes Default = codes "system.posix_acl_default"

-- the guest's name passes as that other one
pub record IsRenamed (rules : List MappingRule) (name host : List ℕ) : Type 0 where
  pub passes : client_answer rules name ≡ Passes host
  pub other : host ≢ name

-- the name as which it passes; None where it does not pass as another one
abbrev pub FindsRenamed : {A : Type 0} → List MappingRule → List ℕ → Option (Vec ℕ A) → Type 0
FindsRenamed rules name None = (host : List ℕ) → ¬ IsRenamed rules name host
FindsRenamed rules name (Some host) = IsRenamed rules name host.items

-- what is found of one of the names
abbrev pub FindsAclName : {A : Type 0} → ℕ → List MappingRule → AclName → List (Finding A) → Type 0
FindsAclName {A} number rules name found =
    (host : Option (Vec ℕ A)) × FindsRenamed rules (acl_bytes name) host × (found ≡ told_by (Guest number) AclRenamed (option_map (Renamed name) host))

-- what is found of both
pub record FindsAclNames {A : Type 0} (number : ℕ) (rules : List MappingRule) (found : List (Finding A)) : Type 0 where
  pub of_access : List (Finding A)
  pub of_default : List (Finding A)
  pub access : FindsAclName number rules Access of_access
  pub default : FindsAclName number rules Default of_default
  pub whole : found ≡ of_access ++ of_default

-- what is found of both, if access control lists are on and there are rules
abbrev pub FindsAcl : {A : Type 0} → ℕ → Bool → Option (NamesSetUp A) → List (Finding A) → Type 0
FindsAcl number true (Some set) found = FindsAclNames number set.map found
FindsAcl number true None found = found ≡ []
FindsAcl number false set found = found ≡ []
