-- How a fault is told to C: its kind as the header numbers it, and what else that kind says.
use Rattle.std.specs.Prelude.{◌≡◌, ◌⊎◌, ℕ, ◌==◌, nat_lt, if◌then◌else◌, List, length, Option, Some, None}
use Rattle.core.specs.declared.str.parse.IntErrorKind.{IntErrorKind}
use Rattle.core.specs.declared.str.parse.IntErrorKind.TheVariants.{Empty, InvalidDigit}
use Rattle.virtiofs_map.specs.Build.{BuildFault, RangeOverflow, Intersects}
use Rattle.virtiofs_map.specs.Refusal.{OutOfMemoryOr}
use Rattle.virtiofs_map.specs.declared.soft_idmap.entry.Direction.{Direction}
use Rattle.virtiofs_map.specs.declared.soft_idmap.entry.Direction.TheVariants.{GuestToHost, HostToGuest}
use Rattle.virtiofs_map.specs.declared.soft_idmap.errors.RangeEnd.{RangeEnd}
use Rattle.virtiofs_map.specs.declared.soft_idmap.errors.RangeEnd.TheVariants.{Source, Target}
use Rattle.virtiofs_map_c.specs.Arrays.{spec_as_c, ArrayFault, Unread, Unbuilt}
use Rattle.virtiofs_map_c.specs.declared.fault.Fault.{Fault}
-- the numbers that calls answer, under the names that the header has for them in small letters: those of `codes.rt`
pub use Rattle.virtiofs_map_c.specs.declared.codes.TheConstants.{OK as ok, AS_IT_IS as as_it_is, FORBIDDEN as forbidden}
pub use Rattle.virtiofs_map_c.specs.declared.codes.TheConstants.{DENIED as denied, UNSUPPORTED as unsupported}
pub use Rattle.virtiofs_map_c.specs.declared.codes.TheConstants.{UNTERMINATED as unterminated, REFUSED as refused}
pub use Rattle.virtiofs_map_c.specs.declared.codes.TheConstants.{NO_ROOM as no_room, NO_MEMORY as no_memory}
pub use Rattle.virtiofs_map_c.specs.declared.codes.TheConstants.{NO_MAP as no_map, HIDDEN as hidden, MERGES as merges}
pub use Rattle.virtiofs_map_c.specs.declared.codes.TheConstants.{ROOT_MOVES as root_moves, NO_ID as no_id}
-- kinds of values
pub use Rattle.virtiofs_map_c.specs.declared.codes.TheConstants.{NO_IDS as no_ids, ACL as acl, CAPABILITY as capability}
-- parts of what was handed in
pub use Rattle.virtiofs_map_c.specs.declared.codes.TheConstants.{NO_PART as no_part, SPECIFICATION as specification}
pub use Rattle.virtiofs_map_c.specs.declared.codes.TheConstants.{RULE as rule, ACL_VALUE as acl_value}
pub use Rattle.virtiofs_map_c.specs.declared.codes.TheConstants.{ACL_ENTRY as acl_entry}
pub use Rattle.virtiofs_map_c.specs.declared.codes.TheConstants.{CAPABILITY_VALUE as capability_value}

-- ---- what a call tells that reads or makes something

-- a fault that there is, or out of memory, is told
abbrev pub TellsFault : {F : Type 0} → (F → Type 0) → (Option F → Type 0) → Type 0
TellsFault {F} has is_told = (fault : Option F) × OutOfMemoryOr fault has × is_told fault

-- where there is no fault: what was asked for is made, or out of memory is told
abbrev pub MakesOrTells : {F : Type 0} → Type 0 → (Option F → Type 0) → Type 0
MakesOrTells made is_told = made ⊎ is_told None

-- where there is this fault, it is told, or out of memory is
abbrev pub TellsThis : {F : Type 0} → (Option F → Type 0) → F → Type 0
TellsThis is_told fault = is_told (Some fault) ⊎ is_told None

-- there was no failure: the map is made, or does not fit
abbrev pub IsAnswered : ℕ → Type 0
IsAnswered code = (code ≡ ok) ⊎ (code ≡ no_room)

-- ---- the members of a fault

-- a fault of a part at its place
abbrev pub told_at : ℕ → ℕ → ℕ → Fault
told_at kind part place =
    record {
      kind = kind;
      part = part;
      direction = 0;
      end = 0;
      number = 0;
      place = place;
      expected = 0;
      seen = 0;
      quoted = 0;
      wanted = 0;
      spec = record { kind = 0; first = 0; to = 0; count = 0 };
    }

-- the same of a text of these bytes, which are quoted where there is room for them
abbrev pub quoting : Fault → ℕ → List ℕ → Fault
quoting told room text =
    record told { quoted = if nat_lt room (length text) then 0 else length text; wanted = length text }

-- a fault that has nothing but its kind
abbrev pub fault_of_kind : ℕ → Fault
fault_of_kind kind = told_at kind no_part 0

-- nothing is wrong
abbrev pub no_fault : Fault
no_fault = fault_of_kind 0

-- a request for memory was refused
abbrev pub memory_fault : Fault
memory_fault = fault_of_kind 1

-- the code of a call that tells the fault
abbrev pub code_of : Fault → ℕ
code_of told =
    if told.kind == 1 then no_memory
    else if told.kind == 22 then no_room
    else if told.kind == 25 then no_id
    else if told.kind == 26 then forbidden
    else if told.kind == 27 then merges
    else if told.kind == 28 then root_moves
    else refused

-- the number of a direction
abbrev pub direction_number : Direction → ℕ
direction_number GuestToHost = 0
direction_number HostToGuest = 1

-- the number of an end
abbrev pub end_number : RangeEnd → ℕ
end_number Source = 0
end_number Target = 1

-- the number of what is wrong with a field that is no number
abbrev pub number_kind : IntErrorKind → ℕ
number_kind Empty = 0
number_kind InvalidDigit = 1
number_kind other = 2

-- ---- of arrays

-- what is told of a list of which no map is made
abbrev pub build_told : BuildFault → Fault
build_told (RangeOverflow spec index direction range_end) =
    record (told_at 4 specification index) {
      direction = direction_number direction;
      end = end_number range_end;
      spec = spec_as_c spec;
    }
build_told (Intersects spec index direction) =
    record (told_at 5 specification index) { direction = direction_number direction; spec = spec_as_c spec }

-- what is told of an array; where there is no fault, that memory ran out
abbrev pub array_told : Option ArrayFault → Fault
array_told None = memory_fault
array_told (Some (Unread index cause)) = told_at 3 specification index
array_told (Some (Unbuilt fault)) = build_told fault

-- what is wrong with an array of specifications, or out of memory, is told, with its code
pub record IsArrayTold (code : ℕ) (told : Fault) (fault : Option ArrayFault) : Type 0 where
  pub code_told : code ≡ code_of told
  pub numbers : told ≡ array_told fault
