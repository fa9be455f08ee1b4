-- What holds of each list that goes across: it comes back as it was where `map` specifications cover its ids.
use Rattle.std.specs.Prelude.{◌≡◌, ℕ, ◌<◌, List, All}
use Rattle.virtiofs_acl.specs.Acl.{entry_count, tag_of, id_of, HasId, specs_for, IdsBecome, KeepsRest, GoesAcross}
use Rattle.virtiofs_map.specs.MappingLaws.{IsMappedBothWays, opposite}
use Rattle.virtiofs_map.specs.declared.cmdline.IdMap.{IdMap}
use Rattle.virtiofs_map.specs.declared.soft_idmap.entry.Direction.{Direction}

-- the new value is the old one with each id as it is on the other side
pub record IsTranslated (users groups : List IdMap) (direction : Direction) (old new : List ℕ) : Type 0 where
  pub user_ids : IdsBecome 2 users direction old new
  pub group_ids : IdsBecome 8 groups direction old new
  pub rest : KeepsRest old new

-- a `map` specification covers each id of the value
abbrev pub AllMapped : List IdMap → List IdMap → Direction → List ℕ → Type 0
AllMapped users groups direction value =
    (k : ℕ) → k < entry_count value → HasId (tag_of value k)
    → IsMappedBothWays (specs_for users groups (tag_of value k)) direction (id_of value k)

-- each element is a byte
abbrev pub AreBytes : List ℕ → Type 0
AreBytes value = All (λ byte. byte < 256) value

-- the new value goes across the other way, and what it becomes is the old one
pub record ComesBack (users groups : List IdMap) (direction : Direction) (room : ℕ) (old new : List ℕ) : Type 0 where
  pub goes : GoesAcross users groups (opposite direction) room new
  pub same : (back : List ℕ) → AreBytes back → IsTranslated users groups (opposite direction) new back → back ≡ old
