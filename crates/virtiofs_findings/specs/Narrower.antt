-- Options under which a guest can do no more than under others.
use Rattle.std.specs.Prelude.{◌≡◌, ◌⊎◌, ◌↔◌, ⊤, ℕ, IsTrue, List, [], true, Option, Some, None}
use Rattle.std.specs.List.{AllZip}
use Rattle.virtiofs_map.specs.Mapping.{Becomes}
use Rattle.virtiofs_map.specs.MapRule.{IsName}
use Rattle.virtiofs_map.specs.Names.{client_answer, IsDenied, IsUnterminated, host_answer, IsHidden, IsUndecided}
use Rattle.virtiofs_map.specs.Rule.{Bad, MappingRule}
use Rattle.virtiofs_map.specs.declared.cmdline.IdMap.{IdMap}
use Rattle.virtiofs_map.specs.declared.soft_idmap.entry.Direction.TheVariants.{GuestToHost, HostToGuest}
use Rattle.virtiofs_options.specs.GuestOptions.{has_xattrs}
use Rattle.virtiofs_findings.specs.Guests.{SetsUp}
use Rattle.virtiofs_findings.specs.declared.guest.Guest.{Guest}
use Rattle.virtiofs_findings.specs.declared.setup.IdSetUp.{IdSetUp}
use Rattle.virtiofs_findings.specs.declared.setup.NamesSetUp.{NamesSetUp}
use Rattle.virtiofs_findings.specs.declared.setup.SetUp.{SetUp}

-- each id of the guest becomes what it became, or is forbidden; each id of the host becomes what it became
pub record NarrowerIds (given other : List IdMap) : Type 0 where
  pub guest : (guest : ℕ) (value : Option ℕ) → Becomes other GuestToHost guest value
      → (value ≡ None) ⊎ Becomes given GuestToHost guest value
  pub host : (host : ℕ) (value : Option ℕ) → Becomes other HostToGuest host value ↔ Becomes given HostToGuest host value

-- the rule that denies the guest each name, and hides each name of the host
abbrev pub deny_all : MappingRule
deny_all = record { kind = Bad; client = true; server = true; key = []; prepend = [] }

-- each name of the guest becomes what it became, or is denied where no rule decided it; each name of the host stands in
-- lists as it stood, or is hidden where no rule decided it
pub record NarrowerNames (given other : List MappingRule) : Type 0 where
  pub client : (name : List ℕ) → IsName name → (client_answer other name ≡ client_answer given name)
      ⊎ ((client_answer given name ≡ IsUnterminated) × (client_answer other name ≡ IsDenied))
  pub server : (name : List ℕ) → IsName name → (host_answer other name ≡ host_answer given name)
      ⊎ ((host_answer given name ≡ IsUndecided) × (host_answer other name ≡ IsHidden))

-- both are there and this holds of them, or neither is
abbrev pub BothOrNone : {S : Type 0} → (S → S → Type 0) → Option S → Option S → Type 0
BothOrNone R None None = ⊤
BothOrNone R None (Some other) = ⊥
BothOrNone R (Some given) None = ⊥
BothOrNone R (Some given) (Some other) = R given other

-- the same of what options set up for ids of a kind, and for names
abbrev pub NarrowerKind : {A : Type 0} → IdSetUp A → IdSetUp A → Type 0
NarrowerKind given other = NarrowerIds given.map other.map

abbrev pub NarrowerRules : {A : Type 0} → NamesSetUp A → NamesSetUp A → Type 0
NarrowerRules given other = NarrowerNames given.map other.map

-- what the options of one guest set up
pub record NarrowerSet {A : Type 0} (given other : SetUp A) : Type 0 where
  pub users : BothOrNone NarrowerKind given.users other.users
  pub groups : BothOrNone NarrowerKind given.groups other.groups
  pub names : BothOrNone NarrowerRules given.names other.names

-- the specifications and the rules are the given ones
abbrev pub SameKind : {A : Type 0} → IdSetUp A → IdSetUp A → Type 0
SameKind given other = other.map ≡ given.map

abbrev pub SameRules : {A : Type 0} → NamesSetUp A → NamesSetUp A → Type 0
SameRules given other = other.map ≡ given.map

pub record SameSet {A : Type 0} (given other : SetUp A) : Type 0 where
  pub users : BothOrNone SameKind given.users other.users
  pub groups : BothOrNone SameKind given.groups other.groups
  pub names : BothOrNone SameRules given.names other.names

-- what is not about ids or names is as it was: who runs the daemon, its namespace, and how it is kept apart; there are
-- rules where there were, access control lists are on only where they were, extended attributes are on where they were, and
-- security labels are asked for where they were
pub record SameRest {A : Type 0} (given other : Guest A) : Type 0 where
  pub runner : other.runner ≡ given.runner
  pub users : other.options.uid_map.items ≡ given.options.uid_map.items
  pub groups : other.options.gid_map.items ≡ given.options.gid_map.items
  pub sandbox : other.options.sandbox ≡ given.options.sandbox
  pub rules : (given.options.xattrmap ≡ None) ↔ (other.options.xattrmap ≡ None)
  pub lists : IsTrue other.options.posix_acl → IsTrue given.options.posix_acl
  pub flag : IsTrue other.options.acl_flag → IsTrue given.options.acl_flag
  pub xattrs : has_xattrs other.options ≡ has_xattrs given.options
  pub label : other.options.security_label ≡ given.options.security_label
  pub starter : other.options.starter ≡ given.options.starter

-- under the other options the guest can do no more than under the given ones
pub record IsNarrower {A : Type 0} (given other : Guest A) : Type 0 where
  pub rest : SameRest given other
  pub set : SetUp A
  pub other_set : SetUp A
  pub sets_up : SetsUp given set
  pub other_sets_up : SetsUp other other_set
  pub narrower : NarrowerSet set other_set

-- that holds of each guest
abbrev pub AreNarrower : {A : Type 0} → List (Guest A) → List (Guest A) → Type 0
AreNarrower = AllZip IsNarrower
