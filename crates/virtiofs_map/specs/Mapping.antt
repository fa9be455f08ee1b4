-- What specifications make of a number.
use Rattle.std.specs.Prelude.{◌≡◌, ◌⊎◌, ℕ, ◌+◌, ◌-◌, ◌<◌, ◌≤◌, List, Contains, Option, Some, None, IsSomeAnd}
use Rattle.virtiofs_map.specs.declared.cmdline.IdMap.{IdMap}
use Rattle.virtiofs_map.specs.declared.cmdline.IdMap.TheVariants.{Guest, Host, SquashGuest, SquashHost, Bidirectional}
use Rattle.virtiofs_map.specs.declared.cmdline.IdMap.TheVariants.{ForbidGuest}
use Rattle.virtiofs_map.specs.declared.soft_idmap.entry.Direction.{Direction}
use Rattle.virtiofs_map.specs.declared.soft_idmap.entry.Direction.TheVariants.{GuestToHost, HostToGuest}
use Rattle.virtiofs_map.specs.declared.soft_idmap.entry.Entry.{Entry}
use Rattle.virtiofs_map.specs.declared.soft_idmap.entry.Entry.TheVariants.{Map, Squash, Fail}

-- what a specification sets up in a direction, where it acts on that direction
abbrev pub entry_of : IdMap → Direction → Option Entry
entry_of (Guest from to count) GuestToHost = Some (Map from to count)
entry_of (Guest from to count) HostToGuest = None
entry_of (Host from to count) GuestToHost = None
entry_of (Host from to count) HostToGuest = Some (Map from to count)
entry_of (SquashGuest from to count) GuestToHost = Some (Squash from to count)
entry_of (SquashGuest from to count) HostToGuest = None
entry_of (SquashHost from to count) GuestToHost = None
entry_of (SquashHost from to count) HostToGuest = Some (Squash from to count)
entry_of (Bidirectional guest host count) GuestToHost = Some (Map guest host count)
entry_of (Bidirectional guest host count) HostToGuest = Some (Map host guest count)
entry_of (ForbidGuest from count) GuestToHost = Some (Fail from count)
entry_of (ForbidGuest from count) HostToGuest = None

-- n is one of the count numbers from first on
abbrev pub InRange : ℕ → ℕ → ℕ → Type 0
InRange first count n = (first ≤ n) × (n < first + count)

-- the first number of an entry
abbrev pub first_of : Entry → ℕ
first_of (Map first to count) = first
first_of (Squash first to count) = first
first_of (Fail first count) = first

-- how many numbers an entry has
abbrev pub count_of : Entry → ℕ
count_of (Map first to count) = count
count_of (Squash first to count) = count
count_of (Fail first count) = count

-- the entry covers the number
abbrev pub EntryCovers : Entry → ℕ → Type 0
EntryCovers entry n = InRange (first_of entry) (count_of entry) n

-- what a covered number becomes: the number that is as far above the target as it is above the first number, the
-- target itself, or nothing if its use fails
abbrev pub target_of : Entry → ℕ → Option ℕ
target_of (Map first to count) n = Some (to + (n - first))
target_of (Squash first to count) n = Some to
target_of (Fail first count) n = None

-- the specification covers the number in that direction
abbrev pub Covers : IdMap → Direction → ℕ → Type 0
Covers spec direction n = IsSomeAnd (entry_of spec direction) (λ entry. EntryCovers entry n)

-- the specification covers the number in that direction, and maps it to `value`
abbrev pub Maps : IdMap → Direction → ℕ → Option ℕ → Type 0
Maps spec direction n value =
    IsSomeAnd (entry_of spec direction) (λ entry. EntryCovers entry n × (target_of entry n ≡ value))

-- some specification of the list covers the number and maps it to `value`, or none covers it and `value` is the
-- number itself
abbrev pub Becomes : List IdMap → Direction → ℕ → Option ℕ → Type 0
Becomes specs direction n value =
    ((spec : IdMap) × Contains specs spec × Maps spec direction n value)
    ⊎ (((spec : IdMap) → Contains specs spec → ¬ Covers spec direction n) × (value ≡ Some n))
