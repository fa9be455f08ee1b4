-- What the parts of the calls on access control lists return. Only private functions cite these definitions.
use Rattle.std.specs.Prelude.{◌≡◌, ◌≢◌, ◌⊎◌, ℕ, ◌<◌, ◌≤◌, List, length, All, Contains, slice_index, slice_index_or}
use Rattle.std.specs.Prelude.{Option, Some, IsSomeAnd}
use Rattle.virtiofs_acl.specs.Acl.{tag_of, id_of, HasId, specs_for, IsSound, IsEntryFault, HasAclFault, MergesEarlier}
use Rattle.virtiofs_acl.specs.Acl.{IsIdByte}
use Rattle.virtiofs_acl.specs.declared.errors.AclError.{AclError}
use Rattle.virtiofs_acl.specs.declared.errors.AclError.TheVariants.{Entry}
use Rattle.virtiofs_acl.specs.declared.merges.EntryRoom.{EntryRoom}
use Rattle.virtiofs_acl.specs.declared.ways.Ways.{Ways}
use Rattle.virtiofs_map.specs.Image.{IsImage}
use Rattle.virtiofs_map.specs.Mapping.{Becomes}
use Rattle.virtiofs_map.specs.declared.cmdline.IdMap.{IdMap}
use Rattle.virtiofs_map.specs.declared.soft_idmap.entry.Direction.{Direction}

-- ---- what ids are looked up in

-- `says` holds for each two lists of specifications of which these are the maps, and for the direction
abbrev pub OfWays : Ways → (List IdMap → List IdMap → Direction → Type 0) → Type 0
OfWays ways says =
    (users groups : List IdMap) → IsImage users ways.users.now → IsImage groups ways.groups.now
    → says users groups ways.direction

-- ---- the tests

-- a fault of the header, of the length or of the room: no id has to do with it
abbrev pub IsSizeFault : ℕ → List ℕ → AclError → Type 0
IsSizeFault room value error = (users groups : List IdMap) (direction : Direction)
    → HasAclFault users groups direction room value error

-- the first `count` entries are sound
abbrev pub AllSoundBelow : List IdMap → List IdMap → Direction → List ℕ → ℕ → Type 0
AllSoundBelow users groups direction value count = (k : ℕ) → k < count → IsSound users groups direction value k

-- the error names the first of these entries that is not sound
abbrev pub IsUnsoundBelow : List IdMap → List IdMap → Direction → List ℕ → ℕ → AclError → Type 0
IsUnsoundBelow users groups direction value count (Entry k fault) =
    (k < count) × AllSoundBelow users groups direction value k × IsEntryFault users groups direction value k fault
IsUnsoundBelow users groups direction value count error = ⊥

-- ---- entries that merge

-- what stands in the room is an entry below count that has an id, with its tag and what its id becomes
pub record IsPlaced (users groups : List IdMap) (direction : Direction) (value : List ℕ) (count : ℕ)
    (one : EntryRoom) : Type 0 where
  pub is_entry : one.entry < count
  pub has_id : HasId one.tag
  pub tag : one.tag ≡ tag_of value one.entry
  pub becomes : Becomes (specs_for users groups (tag_of value one.entry)) direction (id_of value one.entry)
      (Some one.id)

-- the room holds only such entries, and each of them
pub record Places (users groups : List IdMap) (direction : Direction) (value : List ℕ) (count : ℕ)
    (placed : List EntryRoom) : Type 0 where
  pub right : All (IsPlaced users groups direction value count) placed
  pub each : (k : ℕ) → k < count → HasId (tag_of value k) → (one : EntryRoom) × Contains placed one × (one.entry ≡ k)

-- `one` is not after `other` in the order by tag, then by what the id becomes, then by entry number
abbrev pub IsNotAfter : EntryRoom → EntryRoom → Type 0
IsNotAfter one other =
    (one.tag < other.tag)
    ⊎ ((one.tag ≡ other.tag) × (one.id < other.id))
    ⊎ ((one.tag ≡ other.tag) × (one.id ≡ other.id) × (one.entry ≤ other.entry))

-- the entries are in this order
abbrev pub AreInOrder : List EntryRoom → Type 0
AreInOrder placed = (i j : ℕ) (d : EntryRoom) → i ≤ j → j < length placed
    → IsNotAfter (slice_index_or placed i d) (slice_index_or placed j d)

-- two entries with the same tag have different ids that become the same id
pub record Clashes (value : List ℕ) (one other : EntryRoom) : Type 0 where
  pub tag : one.tag ≡ other.tag
  pub id : one.id ≡ other.id
  pub differ : id_of value one.entry ≢ id_of value other.entry

-- entry k is the second of two that clash
pub record HasClash (value : List ℕ) (placed : List EntryRoom) (k : ℕ) : Type 0 where
  pub one : EntryRoom
  pub other : EntryRoom
  pub listed : Contains placed one
  pub listed_too : Contains placed other
  pub clashes : Clashes value one other
  pub order : one.entry ≤ other.entry
  pub is : other.entry ≡ k

-- for any two of the first `high` sorted entries that clash, a number was found, and the entry number of the second
-- is at least that number
abbrev pub MeetsClashes : List ℕ → List EntryRoom → ℕ → Option ℕ → Type 0
MeetsClashes value placed high found =
    (i j : ℕ) (d : EntryRoom) → i < j → j < high → j < length placed
    → Clashes value (slice_index_or placed i d) (slice_index_or placed j d)
    → IsSomeAnd found (λ k. k ≤ (slice_index_or placed j d).entry)

-- none of the first `count` entries merges with an earlier one
abbrev pub NoneMerges : List IdMap → List IdMap → Direction → List ℕ → ℕ → Type 0
NoneMerges users groups direction value count = (k : ℕ) → k < count → ¬ MergesEarlier users groups direction value k

-- entry k is one of the first `count` entries, and the first entry that merges with an earlier one
pub record IsFirstToMerge (users groups : List IdMap) (direction : Direction) (value : List ℕ) (count k : ℕ) : Type
    0 where
  pub is_entry : k < count
  pub merges : MergesEarlier users groups direction value k
  pub before : NoneMerges users groups direction value k

-- ---- writing

-- the ids of the first `count` entries have become what they are to be, and no other byte has changed
pub record IsWritten (users groups : List IdMap) (direction : Direction) (old new : List ℕ) (count : ℕ) : Type 0 where
  pub size : length new ≡ length old
  pub written : (k : ℕ) → k < count → HasId (tag_of old k)
      → Becomes (specs_for users groups (tag_of old k)) direction (id_of old k) (Some (id_of new k))
  pub rest : (place : ℕ) → ¬ IsIdByte old count place → slice_index new place ≡ slice_index old place
