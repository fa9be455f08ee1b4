-- What the ranges of a map stand for, and how they are found. Only private functions cite these definitions.
use Rattle.std.specs.Prelude.{◌⊎◌, ℕ, ◌+◌, ◌^◌, ◌<◌, ◌≤◌, if◌then◌else◌, List, length, take, slice_index_or, All}
use Rattle.std.specs.Prelude.{AllPairs, Bool, nat_le, nat_lt, Option, Some, None, filter_map, IsPermutation}
use Rattle.std.specs.List.Sorted.{IsNonDecreasingBy}
use Rattle.virtiofs_map.specs.Mapping.{entry_of, first_of, count_of}
use Rattle.virtiofs_map.specs.Build.{HasSource, HasTarget, Accepted}
use Rattle.virtiofs_map.specs.declared.cmdline.IdMap.{IdMap}
use Rattle.virtiofs_map.specs.declared.soft_idmap.entry.Direction.{Direction}
use Rattle.virtiofs_map.specs.declared.soft_idmap.entry.Direction.TheVariants.{GuestToHost, HostToGuest}
use Rattle.virtiofs_map.specs.declared.soft_idmap.entry.Entry.{Entry}

-- ---- the ranges of a direction

-- the first range ends before the other one begins, as a fact and as a test
abbrev pub Precedes : Entry → Entry → Type 0
Precedes range other = first_of range + count_of range ≤ first_of other

abbrev pub precedes : Entry → Entry → Bool
precedes range other = nat_le (first_of range + count_of range) (first_of other)

-- no range of the entry is too long
abbrev pub HasRoom : Entry → Type 0
HasRoom entry = HasSource entry × HasTarget entry

-- the range covers a number, and none above 4294967294
pub record HasNumbers (range : Entry) : Type 0 where
  pub some : 1 ≤ count_of range
  pub source : first_of range + count_of range ≤ 4294967295

-- the ranges stand in order, and what their numbers become are ids
pub record AreRanges (ranges : List Entry) : Type 0 where
  pub numbers : All HasNumbers ranges
  pub target : All HasTarget ranges
  pub ordered : AllPairs Precedes ranges

-- the entry, if it covers a number
abbrev pub if_acts : Option Entry → Option Entry
if_acts None = None
if_acts (Some entry) = if nat_lt 0 (count_of entry) then Some entry else None

abbrev pub acting_entry : Direction → IdMap → Option Entry
acting_entry direction spec = if_acts (entry_of spec direction)

-- the entries of a direction that cover a number, in the order of their specifications
abbrev pub entries : List IdMap → Direction → List Entry
entries specs direction = filter_map (acting_entry direction) specs

-- the ranges are those of the specifications in that direction, in order
pub record AreRangesOf (specs : List IdMap) (direction : Direction) (ranges : List Entry) : Type 0 where
  pub whole : IsPermutation (entries specs direction) ranges
  pub ordered : AreRanges ranges

-- ---- a search

-- a search has narrowed its result to the places from `index` up to `end`: the range at `index` begins at or below n,
-- unless it is the first one, and those from `end` on begin above n
pub record Searched (ranges : List Entry) (n index end : ℕ) : Type 0 where
  pub order : index < end
  pub within : end ≤ length ranges
  pub begins : (d : Entry) → 1 ≤ index → first_of (slice_index_or ranges index d) ≤ n
  pub above : (k : ℕ) (d : Entry) → end ≤ k → k < length ranges → n < first_of (slice_index_or ranges k d)

-- the ranges that are left beside one are fewer than 2 to the power of the steps that are still allowed
pub record HasDigitsFor (left taken most : ℕ) : Type 0 where
  pub digits : ℕ
  pub room : left < 2 ^ digits
  pub spent : taken + digits ≤ most

-- a step was taken, or more than one range is left, so that one will be taken
abbrev pub HasBegun : ℕ → ℕ → Type 0
HasBegun taken left = (1 ≤ taken) ⊎ (2 ≤ left)

-- ---- a build

-- the entries of a direction that cover a number, in the order of their first numbers
pub record AreSorted (specs : List IdMap) (direction : Direction) (sorted : List Entry) : Type 0 where
  pub whole : IsPermutation (entries specs direction) sorted
  pub rising : IsNonDecreasingBy first_of sorted

-- the specifications are accepted, and these are their ranges in the two directions
pub record AreRangesBothWays (specs : List IdMap) (guests hosts : List Entry) : Type 0 where
  pub accepted : Accepted specs
  pub from_guest : AreRangesOf specs GuestToHost guests
  pub from_host : AreRangesOf specs HostToGuest hosts

-- the first `count` specifications are accepted, and with the next one they are not
pub record IsLongestAccepted (specs : List IdMap) (count : ℕ) : Type 0 where
  pub below : count < length specs
  pub accepted : Accepted (take count specs)
  pub refused : ¬ Accepted (take (count + 1) specs)
