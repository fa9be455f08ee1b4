-- From which lists of specifications a map is made, and what is wrong with the others.
use Rattle.std.specs.Prelude.{◌≡◌, ℕ, ◌+◌, ◌-◌, ◌≤◌, List, take, All, AllPairs, Contains, Option, Some, None, IsSomeAnd}
use Rattle.std.specs.Prelude.{IfSome, slice_get, ⊤}
use Rattle.virtiofs_map.specs.Mapping.{entry_of, first_of, count_of, Covers}
use Rattle.virtiofs_map.specs.declared.cmdline.IdMap.{IdMap}
use Rattle.virtiofs_map.specs.declared.soft_idmap.entry.Direction.{Direction}
use Rattle.virtiofs_map.specs.declared.soft_idmap.entry.Direction.TheVariants.{GuestToHost, HostToGuest}
use Rattle.virtiofs_map.specs.declared.soft_idmap.entry.Entry.{Entry}
use Rattle.virtiofs_map.specs.declared.soft_idmap.entry.Entry.TheVariants.{Map, Squash, Fail}
use Rattle.virtiofs_map.specs.declared.soft_idmap.errors.FaultKind.{FaultKind}
use Rattle.virtiofs_map.specs.declared.soft_idmap.errors.FaultKind.TheVariants as kind
use Rattle.virtiofs_map.specs.declared.soft_idmap.errors.RangeEnd.{RangeEnd}
use Rattle.virtiofs_map.specs.declared.soft_idmap.errors.RangeEnd.TheVariants.{Source, Target}
use Rattle.virtiofs_map.specs.declared.soft_idmap.errors.IdMapBuildError.{IdMapBuildError}
use Rattle.virtiofs_map.specs.declared.soft_idmap.errors.IdMapBuildError.TheVariants as errors

-- the range is empty, or no number of it is above 4294967294
abbrev pub HasSource : Entry → Type 0
HasSource entry = 1 ≤ count_of entry → first_of entry + count_of entry ≤ 4294967295

-- the range is empty, or no number of it becomes one above 4294967295
abbrev pub HasTarget : Entry → Type 0
HasTarget (Map first to count) = 1 ≤ count → to + (count - 1) ≤ 4294967295
HasTarget (Squash first to count) = ⊤
HasTarget (Fail first count) = ⊤

-- both specifications cover some number in that direction
abbrev pub Meet : IdMap → IdMap → Direction → Type 0
Meet spec other direction = (n : ℕ) × Covers spec direction n × Covers other direction n

-- no range contains a number above 4294967294, no number becomes one above 4294967295, and no two specifications
-- cover the same number in the same direction
pub record Accepted (specs : List IdMap) : Type 0 where
  pub source : (direction : Direction) → All (λ spec. IfSome (entry_of spec direction) HasSource) specs
  pub target : (direction : Direction) → All (λ spec. IfSome (entry_of spec direction) HasTarget) specs
  pub apart : (direction : Direction) → AllPairs (λ spec other. ¬ Meet spec other direction) specs

-- one of the earlier specifications covers a number that spec covers too
abbrev pub MeetsEarlier : List IdMap → IdMap → Direction → Type 0
MeetsEarlier earlier spec direction = (other : IdMap) × Contains earlier other × Meet spec other direction

-- in that direction, the specification may follow the earlier ones
pub record Fits (earlier : List IdMap) (spec : IdMap) (direction : Direction) : Type 0 where
  pub source : IfSome (entry_of spec direction) HasSource
  pub apart : ¬ MeetsEarlier earlier spec direction
  pub target : IfSome (entry_of spec direction) HasTarget

-- the tests of a build come to this specification in this direction: it has that index, those before it are accepted,
-- and, for the direction from host to guest, it passed the tests from guest to host
pub record IsReached (specs : List IdMap) (spec : IdMap) (index : ℕ) (direction : Direction) : Type 0 where
  pub here : slice_get specs index ≡ Some spec
  pub before : Accepted (take index specs)
  pub guest_first : direction ≡ HostToGuest → Fits (take index specs) spec GuestToHost

-- what is wrong with a list that is not accepted: the specification at fault, its index, the direction and, for an
-- overflow, which range goes too far
pub data BuildFault : Type 0 where
  RangeOverflow : IdMap → ℕ → Direction → RangeEnd → BuildFault
  Intersects : IdMap → ℕ → Direction → BuildFault

-- the first fault of the list: the tests of a specification are its source range, the earlier specifications, and
-- then what its numbers become
abbrev pub HasFirstFault : List IdMap → BuildFault → Type 0
HasFirstFault specs (RangeOverflow spec index direction Source) =
    IsReached specs spec index direction
    × IsSomeAnd (entry_of spec direction) (λ entry. ¬ HasSource entry)
HasFirstFault specs (Intersects spec index direction) =
    IsReached specs spec index direction
    × IfSome (entry_of spec direction) HasSource
    × MeetsEarlier (take index specs) spec direction
HasFirstFault specs (RangeOverflow spec index direction Target) =
    IsReached specs spec index direction
    × IfSome (entry_of spec direction) HasSource
    × (¬ MeetsEarlier (take index specs) spec direction)
    × IsSomeAnd (entry_of spec direction) (λ entry. ¬ HasTarget entry)

-- the fault that an error reports; none if the error is out of memory
abbrev pub build_fault_of : IdMapBuildError → Option BuildFault
build_fault_of (errors.RangeOverflow spec index direction range_end) =
    Some (RangeOverflow spec index direction range_end)
build_fault_of (errors.Intersects spec index direction) = Some (Intersects spec index direction)
build_fault_of errors.OutOfMemory = None

-- the kind of an error
abbrev pub kind_of : IdMapBuildError → FaultKind
kind_of (errors.RangeOverflow spec index direction range_end) = kind.InvalidInput
kind_of (errors.Intersects spec index direction) = kind.Other
kind_of errors.OutOfMemory = kind.OutOfMemory
