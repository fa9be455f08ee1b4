-- The ranges that `newuidmap` and `newgidmap` set up for a user.
use Rattle.std.specs.Prelude.{◌≡◌, ◌⊎◌, ℕ, ◌+◌, ◌<◌, ◌≤◌, List, Contains}
use Rattle.virtiofs_map.specs.Mapping.{InRange}
use Rattle.virtiofs_map.specs.declared.idmap.UidMap.{UidMap}
use Rattle.virtiofs_host.specs.declared.subordinate.SubIds.{SubIds}

-- the id is one of the subordinate ids
abbrev pub IsGiven : List SubIds → ℕ → Type 0
IsGiven given id = (ids : SubIds) × Contains given ids × InRange ids.first ids.count id

-- so is each id of a range; the ids may be of one line of the file or of several
abbrev pub AreGiven : List SubIds → ℕ → ℕ → Type 0
AreGiven given first count = (id : ℕ) → InRange first count id → IsGiven given id

-- the range has ids, none of them above 4294967294, and outside the namespace it is the user's own id alone, or nothing
-- but subordinate ids
pub record IsAllowed (own : ℕ) (given : List SubIds) (range : UidMap) : Type 0 where
  pub some : 0 < range.count
  pub inside : range.inside_uid + range.count ≤ 4294967295
  pub outside : range.outside_uid + range.count ≤ 4294967295
  pub owned : ((range.count ≡ 1) × (range.outside_uid ≡ own)) ⊎ AreGiven given range.outside_uid range.count
