-- What is found of guests, of what their options set up.
use Rattle.std.specs.Prelude.{◌≡◌, ℕ, ◌-◌, ◌==◌, ◌||◌, not, Bool, List, [], ◌++◌, take, is_some, option_map, Option, Some, None}
use Rattle.std.specs.Bool.{then_some}
use Rattle.std.specs.List.{list_any}
use Rattle.virtiofs_findings.specs.AclNames.{FindsAcl}
use Rattle.virtiofs_findings.specs.Findings.{told_by, Each}
use Rattle.virtiofs_findings.specs.IdFindings.{FindsIds, FindsKept, ActAsRoot}
use Rattle.virtiofs_findings.specs.NameFindings.{FindsNames}
use Rattle.virtiofs_findings.specs.PairFindings.{FindsPair}
use Rattle.virtiofs_findings.specs.declared.finding.About.TheVariants.{Guest}
use Rattle.virtiofs_findings.specs.declared.finding.Evidence.TheVariants as evidence
use Rattle.virtiofs_findings.specs.declared.finding.Finding.{Finding}
use Rattle.virtiofs_findings.specs.declared.finding.Kind.TheVariants as kinds
use Rattle.virtiofs_findings.specs.declared.ids.found.IdFindings.{IdFindings}
use Rattle.virtiofs_findings.specs.declared.ids.found.IdsFound.{IdsFound}
use Rattle.virtiofs_findings.specs.declared.ids.kind.IdKind.{IdKind}
use Rattle.virtiofs_findings.specs.declared.ids.kind.IdKind.TheVariants.{Users, Groups}
use Rattle.virtiofs_findings.specs.declared.setup.IdSetUp.{IdSetUp}
use Rattle.virtiofs_findings.specs.declared.setup.NamesSetUp.{NamesSetUp}
use Rattle.virtiofs_findings.specs.declared.setup.SetUp.{SetUp}
use Rattle.virtiofs_map.specs.declared.idmap.UidMap.{UidMap}

-- what is found of what is set up; nothing of what is not
abbrev pub FindsIf : {S F : Type 0} → (S → List F → Type 0) → Option S → List F → Type 0
FindsIf Finds None found = found ≡ []
FindsIf Finds (Some set) found = Finds set found

-- some range gives ids other numbers inside the namespace than they have outside
abbrev pub renumbers : List UidMap → Bool
renumbers ranges = list_any (λ range. not (range.inside_uid == range.outside_uid)) ranges

-- of ids of one kind: the first range of the namespace that is at fault, if one is; whether the kernel shows other ranges;
-- and which ids are at fault, if some are
abbrev pub kind_found : {A : Type 0} → ℕ → IdKind → IdSetUp A → IdFindings A → Option (IdsFound A) → List (Finding A)
kind_found number kind set ids kept =
    told_by (Guest number) kinds.Range (option_map (evidence.Range kind) set.fault)
    ++ told_by (Guest number) kinds.OtherRanges (then_some set.differs (evidence.OfIds kind))
    ++ told_by (Guest number) kinds.NotBack (option_map (evidence.Ids kind (renumbers set.ranges.items)) ids.astray)
    ++ told_by (Guest number) kinds.Lacking (option_map (evidence.Ids kind (renumbers set.ranges.items)) ids.lacking)
    ++ told_by (Guest number) kinds.Kept (option_map (evidence.Ids kind (renumbers set.ranges.items)) kept)

-- what is found of ids of one kind
pub record FindsKind {A : Type 0} (number : ℕ) (kind : IdKind) (set : IdSetUp A)
    (found : List (Finding A)) : Type 0 where
  pub ids : IdFindings A
  pub kept : Option (IdsFound A)
  pub finds_ids : FindsIds set.map set.ranges.items ids
  pub finds_kept : FindsKept set.map set.ranges.items kept
  pub whole : found ≡ kind_found number kind set ids kept

-- ids of one kind that act as root of the host; none where a text for them is refused
abbrev pub FindsRootOf : {A : Type 0} → Option (IdSetUp A) → Option (IdsFound A) → Type 0
FindsRootOf None found = found ≡ None
FindsRootOf (Some set) found = ActAsRoot set.map set.ranges.items found

-- whether users or groups act as root of the host, once for both
pub record FindsRoot {A : Type 0} (number : ℕ) (set : SetUp A) (found : List (Finding A)) : Type 0 where
  pub of_users : Option (IdsFound A)
  pub of_groups : Option (IdsFound A)
  pub users : FindsRootOf set.users of_users
  pub groups : FindsRootOf set.groups of_groups
  pub whole : found ≡ told_by (Guest number) kinds.Root
      (then_some (is_some of_users || is_some of_groups) (evidence.BothIds of_users of_groups))

-- what is found of names
abbrev pub FindsNamesOf : {A : Type 0} → ℕ → NamesSetUp A → List (Finding A) → Type 0
FindsNamesOf number set = FindsNames number set.map set.written

-- that the daemon does not start, and why; or that it starts, and leaves the ids in access control lists as they are
abbrev pub start_found : {A : Type 0} → ℕ → SetUp A → List (Finding A)
start_found number set =
    told_by (Guest number) kinds.NoStart (option_map evidence.NoStart set.no_start)
    ++ told_by (Guest number) kinds.PosixAcl (then_some set.acl_refused evidence.Plain)
    ++ told_by (Guest number) kinds.AclUntranslated (then_some set.acl_untranslated evidence.Plain)

-- what is found of the guest of that number by itself, in order
pub record FindsGuest {A : Type 0} (number : ℕ) (set : SetUp A) (found : List (Finding A)) : Type 0 where
  pub of_users : List (Finding A)
  pub of_groups : List (Finding A)
  pub of_root : List (Finding A)
  pub of_names : List (Finding A)
  pub of_acl : List (Finding A)
  pub users : FindsIf (FindsKind number Users) set.users of_users
  pub groups : FindsIf (FindsKind number Groups) set.groups of_groups
  pub root : FindsRoot number set of_root
  pub names : FindsIf (FindsNamesOf number) set.names of_names
  pub acl : FindsAcl number set.posix_acl set.names of_acl
  pub whole : found ≡ start_found number set ++ of_users ++ of_groups ++ of_root ++ of_names ++ of_acl

-- what is found between the guest of that number and each of those before it, which are among these
abbrev pub FindsWithEarlier : {A : Type 0} → List (SetUp A) → ℕ → SetUp A → List (Finding A) → Type 0
FindsWithEarlier sets second set found =
    Each (λ first earlier. FindsPair first second earlier set) 1 (take (second - 1) sets) found

-- what is found of guests: of each by itself, and then between each two
pub record Finds {A : Type 0} (sets : List (SetUp A)) (found : List (Finding A)) : Type 0 where
  pub of_guests : List (Finding A)
  pub of_pairs : List (Finding A)
  pub guests : Each FindsGuest 1 sets of_guests
  pub pairs : Each (FindsWithEarlier sets) 1 sets of_pairs
  pub whole : found ≡ of_guests ++ of_pairs
