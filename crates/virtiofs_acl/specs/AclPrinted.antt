-- The exact texts of the faults of values, as bytes.
use Rattle.std.specs.Prelude.{ℕ, List, ◌++◌, codes}
use Rattle.std.specs.Fmt.{decimal}
use Rattle.virtiofs_acl.specs.declared.errors.AclError.{AclError}
use Rattle.virtiofs_acl.specs.declared.errors.AclError.TheVariants as acl
use Rattle.virtiofs_acl.specs.declared.errors.CapabilityError.{CapabilityError}
use Rattle.virtiofs_acl.specs.declared.errors.CapabilityError.TheVariants as capability
use Rattle.virtiofs_acl.specs.declared.errors.EntryFault.{EntryFault}
use Rattle.virtiofs_acl.specs.declared.errors.EntryFault.TheVariants.{UnknownTag, Permission, NoId, Forbidden}
use Rattle.virtiofs_acl.specs.declared.errors.EntryFault.TheVariants.{Merges}

-- what is wrong with an entry
abbrev pub entry_fault_text : EntryFault → List ℕ
entry_fault_text UnknownTag = codes "there is no such tag"
entry_fault_text Permission = codes "the permissions are above 7"
entry_fault_text NoId = codes "4294967295 is no id"
entry_fault_text Forbidden = codes "use of the id has been configured to fail"
entry_fault_text Merges = codes "the id would become that of an earlier entry"

-- why a list does not go across
abbrev pub acl_error_text : AclError → List ℕ
acl_error_text acl.TooShort = codes "the value has no header"
acl_error_text (acl.Version version) = codes "the version is " ++ decimal version
acl_error_text acl.Length = codes "the last entry is cut"
acl_error_text (acl.Room needed) = codes "there are " ++ decimal needed ++ codes " entries"
acl_error_text (acl.Entry entry fault) = codes "entry " ++ decimal entry ++ codes ": " ++ entry_fault_text fault

-- why a capability does not go across
abbrev pub capability_error_text : CapabilityError → List ℕ
capability_error_text capability.TooShort = codes "the value has no first word"
capability_error_text (capability.Revision revision) = codes "the revision is " ++ decimal revision
capability_error_text capability.Length = codes "the length is not that of the revision"
capability_error_text capability.NoId = codes "4294967295 is no id"
capability_error_text capability.Forbidden = codes "use of the id has been configured to fail"
capability_error_text capability.RootMoves = codes "the revision has no id of root"
