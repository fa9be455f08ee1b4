-- Access control lists as Linux keeps them in a value, and what becomes of their ids. A value is a list of bytes.
use Rattle.std.specs.Prelude.{◌≡◌, ◌≢◌, ◌⊎◌, ◌==◌, if◌then◌else◌, ℕ, ◌+◌, ◌-◌, ◌*◌, ◌/◌, ◌<◌, ◌≤◌, List, length}
use Rattle.std.specs.Prelude.{slice_index, Some, None}
use Rattle.virtiofs_acl.specs.LittleEndian.{two_bytes, four_bytes}
use Rattle.virtiofs_acl.specs.declared.errors.AclError.{AclError}
use Rattle.virtiofs_acl.specs.declared.errors.AclError.TheVariants.{TooShort, Version, Length, Room, Entry}
use Rattle.virtiofs_acl.specs.declared.errors.EntryFault.{EntryFault}
use Rattle.virtiofs_acl.specs.declared.errors.EntryFault.TheVariants.{UnknownTag, Permission, NoId, Forbidden}
use Rattle.virtiofs_acl.specs.declared.errors.EntryFault.TheVariants.{Merges}
use Rattle.virtiofs_map.specs.Mapping.{Becomes}
use Rattle.virtiofs_map.specs.declared.cmdline.IdMap.{IdMap}
use Rattle.virtiofs_map.specs.declared.soft_idmap.entry.Direction.{Direction}

-- ---- what a value says

-- how many entries of 8 bytes follow the header of 4
abbrev pub entry_count : List ℕ → ℕ
entry_count value = (length value - 4) / 8

-- the tag of an entry: two bytes
abbrev pub tag_of : List ℕ → ℕ → ℕ
tag_of value k = two_bytes value (4 + 8 * k)

-- the permissions of an entry: the two bytes after its tag
abbrev pub permissions_of : List ℕ → ℕ → ℕ
permissions_of value k = two_bytes value (6 + 8 * k)

-- the id of an entry: its last four bytes
abbrev pub id_of : List ℕ → ℕ → ℕ
id_of value k = four_bytes value (8 + 8 * k)

-- the tags that there are: the owner, a user, the owner's group, a group, the mask, and all others
abbrev pub IsTag : ℕ → Type 0
IsTag tag = (tag ≡ 1) ⊎ (tag ≡ 2) ⊎ (tag ≡ 4) ⊎ (tag ≡ 8) ⊎ (tag ≡ 16) ⊎ (tag ≡ 32)

-- the tags of a user and of a group: these entries have an id, and the field of the others says nothing
abbrev pub HasId : ℕ → Type 0
HasId tag = (tag ≡ 2) ⊎ (tag ≡ 8)

-- the specifications for the id of such an entry: those of users or those of groups
abbrev pub specs_for : List IdMap → List IdMap → ℕ → List IdMap
specs_for users groups tag = if tag == 2 then users else groups

-- ---- what changes

-- each id of the entries with that tag becomes what the specifications make of it
abbrev pub IdsBecome : ℕ → List IdMap → Direction → List ℕ → List ℕ → Type 0
IdsBecome tag specs direction old new = (k : ℕ) → k < entry_count old → tag_of old k ≡ tag
    → Becomes specs direction (id_of old k) (Some (id_of new k))

-- the byte at that place belongs to the id of one of the first `count` entries
pub record IsIdByte (value : List ℕ) (count place : ℕ) : Type 0 where
  pub entry : ℕ
  pub is_entry : entry < count
  pub has_id : HasId (tag_of value entry)
  pub after : 8 + 8 * entry ≤ place
  pub before : place < 12 + 8 * entry

-- the length, and every byte that does not belong to an id, are unchanged
pub record KeepsRest (old new : List ℕ) : Type 0 where
  pub size : length new ≡ length old
  pub rest : (place : ℕ) → ¬ IsIdByte old (entry_count old) place → slice_index new place ≡ slice_index old place

-- ---- which values go across

-- version 2, and then a whole number of entries
pub record IsWhole (value : List ℕ) : Type 0 where
  pub header : 4 ≤ length value
  pub version : four_bytes value 0 ≡ 2
  pub whole : length value ≡ 4 + 8 * entry_count value

-- the entry is well made, and its id, if it has one, is an id, goes across, and becomes one
pub record IsSound (users groups : List IdMap) (direction : Direction) (value : List ℕ) (k : ℕ) : Type 0 where
  pub known : IsTag (tag_of value k)
  pub permitted : permissions_of value k ≤ 7
  pub is_id : HasId (tag_of value k) → id_of value k ≢ 4294967295
  pub goes : HasId (tag_of value k)
      → (n : ℕ) × Becomes (specs_for users groups (tag_of value k)) direction (id_of value k) (Some n)
  pub to_id : HasId (tag_of value k)
      → ¬ Becomes (specs_for users groups (tag_of value k)) direction (id_of value k) (Some 4294967295)

-- an earlier entry with the same tag has another id, and both ids would become the same id
pub record MergesEarlier (users groups : List IdMap) (direction : Direction) (value : List ℕ) (k : ℕ) : Type 0 where
  pub has_id : HasId (tag_of value k)
  pub earlier : ℕ
  pub before : earlier < k
  pub same_tag : tag_of value earlier ≡ tag_of value k
  pub differ : id_of value earlier ≢ id_of value k
  pub both : ℕ
  pub one : Becomes (specs_for users groups (tag_of value k)) direction (id_of value earlier) (Some both)
  pub other : Becomes (specs_for users groups (tag_of value k)) direction (id_of value k) (Some both)

-- the value is whole, the lent room is enough, and every entry is sound by itself
pub record AllSound (users groups : List IdMap) (direction : Direction) (room : ℕ) (value : List ℕ) : Type 0 where
  pub whole : IsWhole value
  pub fits : entry_count value ≤ room
  pub sound : (k : ℕ) → k < entry_count value → IsSound users groups direction value k

-- the same, and no two different ids with the same tag would become the same id
pub record GoesAcross (users groups : List IdMap) (direction : Direction) (room : ℕ) (value : List ℕ) : Type 0 where
  pub all_sound : AllSound users groups direction room value
  pub apart : (k : ℕ) → k < entry_count value → ¬ MergesEarlier users groups direction value k

-- ---- the first fault of the others

-- what is wrong with an entry by itself: the first of the tests of its tag, its permissions and its id that fails
abbrev pub IsEntryFault : List IdMap → List IdMap → Direction → List ℕ → ℕ → EntryFault → Type 0
IsEntryFault users groups direction value k UnknownTag = ¬ IsTag (tag_of value k)
IsEntryFault users groups direction value k Permission = IsTag (tag_of value k) × (7 < permissions_of value k)
IsEntryFault users groups direction value k NoId =
    HasId (tag_of value k) × (permissions_of value k ≤ 7)
    × ((id_of value k ≡ 4294967295)
    ⊎ Becomes (specs_for users groups (tag_of value k)) direction (id_of value k) (Some 4294967295))
IsEntryFault users groups direction value k Forbidden =
    HasId (tag_of value k) × (permissions_of value k ≤ 7) × (id_of value k ≢ 4294967295)
    × Becomes (specs_for users groups (tag_of value k)) direction (id_of value k) None
IsEntryFault users groups direction value k Merges = ⊥

-- the first entry that is not sound, with what is wrong with it
pub record IsFirstUnsound (users groups : List IdMap) (direction : Direction) (room : ℕ) (value : List ℕ) (k : ℕ)
    (fault : EntryFault) : Type 0 where
  pub whole : IsWhole value
  pub fits : entry_count value ≤ room
  pub is_entry : k < entry_count value
  pub before : (j : ℕ) → j < k → IsSound users groups direction value j
  pub wrong : IsEntryFault users groups direction value k fault

-- every entry is sound by itself, and this is the first whose id would merge with an earlier one
pub record IsFirstMerged (users groups : List IdMap) (direction : Direction) (room : ℕ) (value : List ℕ) (k : ℕ) : Type
    0 where
  pub all_sound : AllSound users groups direction room value
  pub is_entry : k < entry_count value
  pub before : (j : ℕ) → j < k → ¬ MergesEarlier users groups direction value j
  pub merges : MergesEarlier users groups direction value k

-- the first fault of a value, if room is lent for that many entries
abbrev pub HasAclFault : List IdMap → List IdMap → Direction → ℕ → List ℕ → AclError → Type 0
HasAclFault users groups direction room value TooShort = length value < 4
HasAclFault users groups direction room value (Version version) =
    (4 ≤ length value) × (version ≡ four_bytes value 0) × (version ≢ 2)
HasAclFault users groups direction room value Length =
    (4 ≤ length value) × (four_bytes value 0 ≡ 2) × (length value ≢ 4 + 8 * entry_count value)
HasAclFault users groups direction room value (Room needed) =
    IsWhole value × (needed ≡ entry_count value) × (room < needed)
HasAclFault users groups direction room value (Entry k Merges) = IsFirstMerged users groups direction room value k
HasAclFault users groups direction room value (Entry k fault) = IsFirstUnsound users groups direction room value k fault
