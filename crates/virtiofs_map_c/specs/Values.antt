-- What the calls tell that change the ids in a value.
use Rattle.std.specs.Prelude.{◌≡◌, ◌≢◌, ◌⊎◌, ℕ, ◌<◌, List, Result, Ok, Err}
use Rattle.virtiofs_acl.specs.Acl.{entry_count, tag_of, id_of, HasId, GoesAcross, HasAclFault}
use Rattle.virtiofs_acl.specs.AclLaws.{IsTranslated, AllMapped, ComesBack}
use Rattle.virtiofs_acl.specs.Capability.{root_of, RootBecomes, KeepsFront, IsInRevision3, HasRoot, RootGoesAcross}
use Rattle.virtiofs_acl.specs.Capability.{HasRootFault, HasCapabilityFault, RootComesBack}
use Rattle.virtiofs_map.specs.MappingLaws.{IsMappedBothWays}
use Rattle.virtiofs_acl.specs.declared.errors.AclError.{AclError}
use Rattle.virtiofs_acl.specs.declared.errors.AclError.TheVariants as lists
use Rattle.virtiofs_acl.specs.declared.errors.CapabilityError.{CapabilityError}
use Rattle.virtiofs_acl.specs.declared.errors.CapabilityError.TheVariants as capabilities
use Rattle.virtiofs_acl.specs.declared.errors.EntryFault.{EntryFault}
use Rattle.virtiofs_acl.specs.declared.errors.EntryFault.TheVariants.{UnknownTag, Permission, NoId, Forbidden}
use Rattle.virtiofs_acl.specs.declared.errors.EntryFault.TheVariants.{Merges}
use Rattle.virtiofs_map.specs.declared.cmdline.IdMap.{IdMap as Specification}
use Rattle.virtiofs_map.specs.declared.soft_idmap.entry.Direction.{Direction}
use Rattle.virtiofs_map_c.specs.Faults.{ok, forbidden, refused, no_room, no_map, merges, root_moves, acl_value}
use Rattle.virtiofs_map_c.specs.Faults.{acl_entry, capability_value, no_id, no_fault, told_at, code_of}
use Rattle.virtiofs_map_c.specs.declared.fault.Fault.{Fault}

-- ---- how a fault is told

-- the kind of what is wrong with an entry
abbrev pub entry_kind : EntryFault → ℕ
entry_kind UnknownTag = 23
entry_kind Permission = 24
entry_kind NoId = 25
entry_kind Forbidden = 26
entry_kind Merges = 27

-- why a list does not go across, where room is lent for that many entries
abbrev pub acl_told : ℕ → AclError → Fault
acl_told room lists.TooShort = told_at 19 acl_value 0
acl_told room (lists.Version version) = record (told_at 20 acl_value 0) { seen = version }
acl_told room lists.Length = told_at 21 acl_value 0
acl_told room (lists.Room needed) = record (told_at 22 acl_value 0) { expected = needed; seen = room }
acl_told room (lists.Entry k fault) = told_at (entry_kind fault) acl_entry k

-- why a capability does not
abbrev pub capability_told : CapabilityError → Fault
capability_told capabilities.TooShort = told_at 19 capability_value 0
capability_told (capabilities.Revision revision) = record (told_at 20 capability_value 0) { seen = revision }
capability_told capabilities.Length = told_at 21 capability_value 0
capability_told capabilities.NoId = told_at 25 capability_value 0
capability_told capabilities.Forbidden = told_at 26 capability_value 0
capability_told capabilities.RootMoves = told_at 28 capability_value 0

-- the error is told, with its code
pub record IsAclTold (room code : ℕ) (told : Fault) (error : AclError) : Type 0 where
  pub code_told : code ≡ code_of told
  pub numbers : told ≡ acl_told room error

pub record IsCapabilityTold (code : ℕ) (told : Fault) (error : CapabilityError) : Type 0 where
  pub code_told : code ≡ code_of told
  pub numbers : told ≡ capability_told error

-- a code that comes with no fault
abbrev pub IsCode : ℕ → ℕ → Fault → Type 0
IsCode answered code told = (code ≡ answered) × (told ≡ no_fault)

-- what became of a value is told: that it is done, or its error
abbrev pub IsAnswerTold : {E : Type 0} → (ℕ → Fault → E → Type 0) → Result (Unit {0}) E → ℕ → Fault → Type 0
IsAnswerTold is_told (Ok done) code told = IsCode ok code told
IsAnswerTold is_told (Err error) code told = is_told code told error

-- ---- what the calls answer

-- no id of a user or of a group is 4294967295 in the value that was written
abbrev pub AreIds : List ℕ → List ℕ → Type 0
AreIds old new = (k : ℕ) → k < entry_count old → HasId (tag_of old k) → id_of new k ≢ 4294967295

-- a list that goes across has each id changed and nothing else, and comes back where `map` covers its ids; of any other
-- the first fault is told
pub record ChangesAcl (users groups : List Specification) (direction : Direction) (room : ℕ) (old new : List ℕ)
    (code : ℕ) (told : Fault) : Type 0 where
  pub done : code ≡ ok → IsTranslated users groups direction old new
  pub ids : code ≡ ok → AreIds old new
  pub accepted : code ≡ ok → GoesAcross users groups direction room old
  pub complete : GoesAcross users groups direction room old → code ≡ ok
  pub refused : code ≢ ok
      → (error : AclError) × HasAclFault users groups direction room old error × IsAclTold room code told error
  pub faulty : (error : AclError) → HasAclFault users groups direction room old error → IsAclTold room code told error
  pub leads_back : code ≡ ok → AllMapped users groups direction old → ComesBack users groups direction room old new

-- the id of root in a capability that goes across is changed and nothing else, and comes back where a `map` covers it;
-- of any other the first fault is told
pub record ChangesCapability (users : List Specification) (direction : Direction) (old new : List ℕ) (code : ℕ)
    (told : Fault) : Type 0 where
  pub root : code ≡ ok → RootBecomes users direction old new
  pub id : code ≡ ok → root_of new ≢ 4294967295
  pub front : code ≡ ok → KeepsFront old new
  pub accepted : code ≡ ok → RootGoesAcross users direction old
  pub complete : RootGoesAcross users direction old → code ≡ ok
  pub refused : code ≢ ok
      → (error : CapabilityError) × HasCapabilityFault users direction old error × IsCapabilityTold code told error
  pub faulty : (error : CapabilityError) → HasCapabilityFault users direction old error
      → IsCapabilityTold code told error
  pub leads_back : code ≡ ok → IsMappedBothWays users direction (root_of old) → RootComesBack users direction old new

-- a capability is written in revision 3, with what the id of root becomes; where it is none, or the use of root fails,
-- the first fault is told
pub record WritesCapability (users : List Specification) (direction : Direction) (value written : List ℕ) (code : ℕ)
    (told : Fault) : Type 0 where
  pub root : code ≡ ok → RootBecomes users direction value written
  pub id : code ≡ ok → root_of written ≢ 4294967295
  pub same : code ≡ ok → IsInRevision3 value written
  pub accepted : code ≡ ok → HasRoot users direction value
  pub complete : HasRoot users direction value → code ≡ ok
  pub refused : code ≢ ok
      → (error : CapabilityError) × HasRootFault users direction value error × IsCapabilityTold code told error
  pub faulty : (error : CapabilityError) → HasRootFault users direction value error → IsCapabilityTold code told error

-- ---- the codes that they have

abbrev pub IsAclCode : ℕ → Type 0
IsAclCode code =
    (code ≡ ok)
    ⊎ ((code ≡ forbidden)
    ⊎ ((code ≡ refused) ⊎ ((code ≡ no_room) ⊎ ((code ≡ no_map) ⊎ ((code ≡ merges) ⊎ (code ≡ no_id))))))

abbrev pub IsRootCode : ℕ → Type 0
IsRootCode code =
    (code ≡ ok) ⊎ ((code ≡ forbidden) ⊎ ((code ≡ refused) ⊎ ((code ≡ no_map) ⊎ (code ≡ no_id))))

abbrev pub IsCapabilityCode : ℕ → Type 0
IsCapabilityCode code = IsRootCode code ⊎ (code ≡ root_moves)
