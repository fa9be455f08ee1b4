-- The ranges of a daemon's namespace, and what is wrong with those of its options: the daemon gets no namespace with
-- such a range.
use Rattle.std.specs.Prelude.{◌≡◌, ◌⊎◌, ℕ, ◌+◌, ◌-◌, ◌<◌, ◌≤◌, Bool, true, false, not, min, ◌==◌, ◌&&◌, if◌then◌else◌, List, [], ◌∷◌, ◌++◌}
use Rattle.std.specs.Prelude.{codes, find, flat_map, length, nat_le, nat_lt, take, slice_get, Option, Some, None, MatchOption, option_map, unwrap_or}
use Rattle.std.specs.Fmt.{decimal}
use Rattle.std.specs.List.{list_any}
use Rattle.std.specs.Option.{option_and_then, option_map_or}
use Rattle.virtiofs_map.specs.Mapping.{InRange}
use Rattle.virtiofs_map.specs.declared.idmap.UidMap.{UidMap}
use Rattle.virtiofs_host.specs.Allowed.{IsAllowed}
use Rattle.virtiofs_host.specs.declared.runner.Bounds.{Bounds}
use Rattle.virtiofs_findings.specs.Lists.{joined}
use Rattle.virtiofs_findings.specs.declared.ids.ranges.RangeFault.{RangeFault}
use Rattle.virtiofs_findings.specs.declared.ids.ranges.RangeFault.TheVariants.{Empty, Beyond, TooMany, PastPage, NotGiven, MeetsInside, MeetsOutside}
use Rattle.virtiofs_findings.specs.declared.ids.ranges.RangeFound.{RangeFound}

-- some id is one of both
abbrev pub MeetAt : ℕ → ℕ → ℕ → ℕ → Type 0
MeetAt first count other other_count = (n : ℕ) × InRange first count n × InRange other other_count n

-- the range has an id above 4294967294, inside or outside
abbrev pub IsBeyond : UidMap → Type 0
IsBeyond range = (4294967295 < range.inside_uid + range.count) ⊎ (4294967295 < range.outside_uid + range.count)

-- some id inside the namespace is one of both ranges
abbrev pub MeetInside : UidMap → UidMap → Type 0
MeetInside range other = MeetAt range.inside_uid range.count other.inside_uid other.count

-- some id outside the namespace is one of both ranges
abbrev pub MeetOutside : UidMap → UidMap → Type 0
MeetOutside range other = MeetAt range.outside_uid range.count other.outside_uid other.count

-- the range at that place, counted from 0, has that property
abbrev pub MeetsOneAt : List UidMap → ℕ → (UidMap → Type 0) → Type 0
MeetsOneAt ranges place Meets = (one : UidMap) × (slice_get ranges place ≡ Some one) × Meets one

-- the range as a line of `/proc/PID/uid_map`
abbrev pub line_of : UidMap → List ℕ
line_of range =
    joined (decimal range.inside_uid ∷ codes " " ∷ decimal range.outside_uid ∷ codes " " ∷ decimal range.count ∷ codes "\n" ∷ [])

-- a line for each
abbrev pub lines_of : List UidMap → List ℕ
lines_of ranges = flat_map line_of ranges

-- `newuidmap` is asked for the range, and refuses it
abbrev pub IsRefused : {A : Type 0} → Option (Bounds A) → UidMap → Type 0
IsRefused None range = ⊥
IsRefused (Some bounds) range =
    MatchOption bounds.given ⊥ (λ given. ¬ IsAllowed bounds.own given.items range)

-- the range, before which those others stand, is at fault in that way. Linux takes up to 340 lines, and less than 4096
-- bytes
abbrev pub IsAtFault : {A : Type 0} → Option (Bounds A) → List UidMap → UidMap → RangeFault → Type 0
IsAtFault bounds before range Empty = range.count ≡ 0
IsAtFault bounds before range Beyond = IsBeyond range
IsAtFault bounds before range TooMany = 340 ≤ length before
IsAtFault bounds before range PastPage = 4096 ≤ length (lines_of before ++ line_of range)
IsAtFault bounds before range NotGiven = IsRefused bounds range
IsAtFault bounds before range (MeetsInside place) = MeetsOneAt before place (MeetInside range)
IsAtFault bounds before range (MeetsOutside place) = MeetsOneAt before place (MeetOutside range)

-- the range at that place, counted from 0, is at fault in that way
pub record HasFaultAt {A : Type 0} (bounds : Option (Bounds A)) (ranges : List UidMap) (place : ℕ) (fault : RangeFault)
    : Type 0 where
  pub range : UidMap
  pub here : slice_get ranges place ≡ Some range
  pub is_at_fault : IsAtFault bounds (take place ranges) range fault

-- None where no range is at fault, and else the first that is, with what is wrong with it
abbrev pub FindsFault : {A : Type 0} → Option (Bounds A) → List UidMap → Option RangeFound → Type 0
FindsFault bounds ranges None = (place : ℕ) (fault : RangeFault) → ¬ HasFaultAt bounds ranges place fault
FindsFault bounds ranges (Some it) =
    HasFaultAt bounds ranges it.place it.fault
    × ((place : ℕ) (fault : RangeFault) → place < it.place → ¬ HasFaultAt bounds ranges place fault)

-- ---- the namespace that a daemon runs in

-- the ranges that the kernel shows, if it shows any
abbrev pub shown_of : {A : Type 0} → Option (Bounds A) → Option (List UidMap)
shown_of bounds = option_and_then (λ it. option_map (λ all. all.items) it.shown) bounds

-- the id that the daemon runs as, if that is said; root, where nothing is
abbrev pub said_own : {A : Type 0} → Option (Bounds A) → Option ℕ
said_own bounds = option_map (λ it. it.own) bounds

abbrev pub own_of : {A : Type 0} → Option (Bounds A) → ℕ
own_of bounds = unwrap_or (said_own bounds) 0

-- it can act as that one alone, where no namespace has others
abbrev pub is_alone : {A : Type 0} → Option (Bounds A) → Bool
is_alone None = false
is_alone (Some bounds) = bounds.is_alone

-- the range has each id of the host, under its number
abbrev pub is_host : UidMap → Bool
is_host range = range.inside_uid == 0 && range.outside_uid == 0 && range.count == 4294967295

-- the ranges as those of a namespace of the daemon's own: none where they are all ids of the host
abbrev pub but_host : List UidMap → List UidMap
but_host [] = []
but_host (range ∷ []) = if is_host range then [] else range ∷ []
but_host (range ∷ other ∷ ranges) = range ∷ other ∷ ranges

-- the range of one id, under its number
abbrev pub alone : ℕ → UidMap
alone id = record { inside_uid = id; outside_uid = id; count = 1 }

-- the ranges of the options; where there are none, the id that the daemon runs as, if it acts as that alone
abbrev pub set_up_ranges : Bool → ℕ → List UidMap → List UidMap
set_up_ranges true own [] = alone own ∷ []
set_up_ranges false own [] = []
set_up_ranges own_alone own (range ∷ written) = range ∷ written

-- before 65534 is taken out: those that the kernel shows (of a process in the namespace of the host that acts as one id
-- alone: that id), or else those that the daemon sets up
abbrev pub mapped_ranges : {A : Type 0} → Option (Bounds A) → Bool → List UidMap → List UidMap
mapped_ranges bounds own_alone written =
    option_map_or (λ shown. set_up_ranges (is_alone bounds) (own_of bounds) (but_host shown)) (shown_of bounds)
    (set_up_ranges own_alone (own_of bounds) written)

-- the range has that id inside
abbrev pub has : UidMap → ℕ → Bool
has range n = nat_le range.inside_uid n && nat_lt n (range.inside_uid + range.count)

-- the range has that id outside
abbrev pub has_outside : UidMap → ℕ → Bool
has_outside range n = nat_le range.outside_uid n && nat_lt n (range.outside_uid + range.count)

-- one of the ranges has it inside, or outside
abbrev pub some_has : List UidMap → ℕ → Bool
some_has ranges n = list_any (λ range. has range n) ranges

abbrev pub some_has_outside : List UidMap → ℕ → Bool
some_has_outside ranges n = list_any (λ range. has_outside range n) ranges

-- as far as is said, the daemon is none of the ids of these ranges: neither 0, which it becomes where it can, nor the one
-- that it runs as. Linux then shows it its own id as 65534
abbrev pub is_outside : Option ℕ → List UidMap → Bool
is_outside None ranges = not (some_has ranges 0)
is_outside (Some own) ranges = not (some_has ranges 0) && not (some_has_outside ranges own)

-- what the range has below 65534, and above
abbrev pub below_overflow : UidMap → UidMap
below_overflow range =
    record { inside_uid = range.inside_uid; outside_uid = range.outside_uid; count = 65534 - range.inside_uid }

abbrev pub above_overflow : UidMap → UidMap
above_overflow range = record {
  inside_uid = 65535;
  outside_uid = min (range.outside_uid + (65535 - range.inside_uid)) 4294967295;
  count = range.count - (65535 - range.inside_uid);
}

-- the range, if it has an id
abbrev pub if_some : UidMap → List UidMap
if_some range = if range.count == 0 then [] else range ∷ []

-- the range without 65534: also one of that id alone leaves a range, since a list of none means all ids of the host
abbrev pub but_overflow : UidMap → List UidMap
but_overflow range =
    if has range 65534 then below_overflow range ∷ if_some (above_overflow range) else range ∷ []

-- the ranges by which the daemon can act as an id inside: of one that takes 65534 for itself, those without it
abbrev pub acting_ranges : Option ℕ → List UidMap → List UidMap
acting_ranges own ranges = if is_outside own ranges then flat_map but_overflow ranges else ranges

-- the ranges of the namespace that the daemon runs in
abbrev pub ranges_of : {A : Type 0} → Option (Bounds A) → Bool → List UidMap → List UidMap
ranges_of bounds own_alone written = acting_ranges (said_own bounds) (mapped_ranges bounds own_alone written)

-- the ranges of the options as virtiofsd takes them: of a single one with the id that it runs as, a COUNT of 0 is one of 1
abbrev pub is_own : Option ℕ → ℕ → Bool
is_own None id = false
is_own (Some own) id = own == id

abbrev pub as_taken : Option ℕ → UidMap → UidMap
as_taken own range = record {
  inside_uid = range.inside_uid;
  outside_uid = range.outside_uid;
  count = if is_own own range.outside_uid && range.count == 0 then 1 else range.count;
}

abbrev pub taken : Option ℕ → List UidMap → List UidMap
taken own [] = []
taken own (range ∷ []) = as_taken own range ∷ []
taken own (range ∷ other ∷ written) = range ∷ other ∷ written

-- the id outside of an id inside, by the first of the ranges that has it
abbrev pub outside_of : List UidMap → ℕ → Option ℕ
outside_of ranges n = option_map (λ range. range.outside_uid + (n - range.inside_uid)) (find (λ range. has range n) ranges)

-- the ranges of the options mean the same as those that the kernel shows: each id inside leads to the same id outside, or
-- to none, in both. Linux takes up to 340 ranges
abbrev pub AreSame : List UidMap → List UidMap → Type 0
AreSame shown written = (length written ≤ 340) × ((n : ℕ) → outside_of shown n ≡ outside_of written n)

-- the kernel shows other ranges than those of the options, if there are any
abbrev pub Differ : {A : Type 0} → Option (Bounds A) → List UidMap → Type 0
Differ bounds [] = ⊥
Differ bounds (range ∷ written) = MatchOption (shown_of bounds) ⊥ (λ shown. ¬ AreSame shown (range ∷ written))
