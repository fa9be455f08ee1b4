-- Capabilities of files as Linux keeps them in a value, and what becomes of the id of root in them. A value is a list
-- of bytes.
use Rattle.std.specs.Prelude.{◌≡◌, ◌≢◌, ◌⊎◌, ℕ, ◌<◌, ◌≤◌, List, length, slice_index, Some, None}
use Rattle.virtiofs_acl.specs.AclLaws.{AreBytes}
use Rattle.virtiofs_acl.specs.LittleEndian.{four_bytes}
use Rattle.virtiofs_acl.specs.declared.errors.CapabilityError.{CapabilityError}
use Rattle.virtiofs_acl.specs.declared.errors.CapabilityError.TheVariants.{TooShort, Revision, Length, NoId}
use Rattle.virtiofs_acl.specs.declared.errors.CapabilityError.TheVariants.{Forbidden, RootMoves}
use Rattle.virtiofs_map.specs.Mapping.{Becomes}
use Rattle.virtiofs_map.specs.MappingLaws.{opposite}
use Rattle.virtiofs_map.specs.declared.cmdline.IdMap.{IdMap}
use Rattle.virtiofs_map.specs.declared.soft_idmap.entry.Direction.{Direction}

-- ---- what a value says

-- the revision: the highest byte of the first word
abbrev pub revision_of : List ℕ → ℕ
revision_of value = slice_index value 3

-- the revisions that there are
abbrev pub IsRevision : ℕ → Type 0
IsRevision revision = (revision ≡ 1) ⊎ (revision ≡ 2) ⊎ (revision ≡ 3)

-- values of that revision have that many bytes
abbrev pub HasSize : ℕ → ℕ → Type 0
HasSize revision size = ((revision ≡ 1) × (size ≡ 12)) ⊎ ((revision ≡ 2) × (size ≡ 20)) ⊎ ((revision ≡ 3) × (size ≡ 24))

-- the id of root: the last word of revision 3. Values of revisions 1 and 2 end before it, and there it is 0, because
-- `slice_index` is 0 past the end of a list.
abbrev pub root_of : List ℕ → ℕ
root_of value = four_bytes value 20

-- the value has the length of its revision
pub record IsSized (value : List ℕ) : Type 0 where
  pub word : 4 ≤ length value
  pub sized : HasSize (revision_of value) (length value)

-- the value has the length of its revision, and root is an id
pub record IsCapability (value : List ℕ) : Type 0 where
  pub sized : IsSized value
  pub is_id : root_of value ≢ 4294967295

-- ---- what changes

-- the id of root becomes what the specifications make of it
abbrev pub RootBecomes : List IdMap → Direction → List ℕ → List ℕ → Type 0
RootBecomes users direction old new = Becomes users direction (root_of old) (Some (root_of new))

-- the length, and every byte before the id of root, are unchanged
pub record KeepsFront (old new : List ℕ) : Type 0 where
  pub size : length new ≡ length old
  pub front : (place : ℕ) → place < 20 → slice_index new place ≡ slice_index old place

-- `written` is `value` converted to revision 3, apart from the id of root: with the same flags and the same two sets;
-- bytes that a shorter value does not have are 0
pub record IsInRevision3 (value written : List ℕ) : Type 0 where
  pub revision : revision_of written ≡ 3
  pub flags : (place : ℕ) → place < 3 → slice_index written place ≡ slice_index value place
  pub sets : (place : ℕ) → 4 ≤ place → place < 20 → slice_index written place ≡ slice_index value place

-- ---- which values go across

-- the value is a capability, and the specifications do not forbid its id of root, which becomes an id
pub record HasRoot (users : List IdMap) (direction : Direction) (value : List ℕ) : Type 0 where
  pub capability : IsCapability value
  pub root : ℕ
  pub becomes : Becomes users direction (root_of value) (Some root)
  pub to_id : ¬ Becomes users direction (root_of value) (Some 4294967295)

-- the value is a capability, the specifications do not forbid its id of root, and, if the value has no field for the
-- id of root, 0 is mapped to 0
pub record RootGoesAcross (users : List IdMap) (direction : Direction) (value : List ℕ) : Type 0 where
  pub has_root : HasRoot users direction value
  pub stays : revision_of value ≢ 3 → Becomes users direction 0 (Some 0)

-- ---- the first fault of the others

-- the first fault of a value that is to be written in revision 3
abbrev pub HasRootFault : List IdMap → Direction → List ℕ → CapabilityError → Type 0
HasRootFault users direction value TooShort = length value < 4
HasRootFault users direction value (Revision revision) =
    (4 ≤ length value) × (revision ≡ revision_of value) × (¬ IsRevision revision)
HasRootFault users direction value Length =
    (4 ≤ length value) × IsRevision (revision_of value) × (¬ HasSize (revision_of value) (length value))
HasRootFault users direction value NoId =
    IsSized value
    × ((root_of value ≡ 4294967295) ⊎ Becomes users direction (root_of value) (Some 4294967295))
HasRootFault users direction value Forbidden = IsCapability value × Becomes users direction (root_of value) None
HasRootFault users direction value RootMoves = ⊥

-- the first fault of a value that is to be changed in place
abbrev pub HasCapabilityFault : List IdMap → Direction → List ℕ → CapabilityError → Type 0
HasCapabilityFault users direction value RootMoves =
    IsCapability value × (revision_of value ≢ 3)
    × ((root : ℕ) × Becomes users direction 0 (Some root) × (root ≢ 0) × (root ≢ 4294967295))
HasCapabilityFault users direction value fault = HasRootFault users direction value fault

-- ---- and back

-- the new value goes across the other way, and what it becomes is the old one
pub record RootComesBack (users : List IdMap) (direction : Direction) (old new : List ℕ) : Type 0 where
  pub goes : RootGoesAcross users (opposite direction) new
  pub same : (back : List ℕ) → AreBytes back → RootBecomes users (opposite direction) new back → KeepsFront new back
      → back ≡ old
