-- Arrays of which each element says a specification, and what is wrong with one of which no map is made.
use Rattle.std.specs.Prelude.{◌≡◌, ℕ, ◌+◌, ◌==◌, if◌then◌else◌, List, take, slice_get, Option, Some, None, IsSomeAnd}
use Rattle.std.specs.List.{AllZip}
use Rattle.virtiofs_map.specs.Build.{Accepted, BuildFault, HasFirstFault, RangeOverflow, Intersects}
use Rattle.virtiofs_map.specs.declared.cmdline.IdMap.{IdMap as Specification}
use Rattle.virtiofs_map.specs.declared.cmdline.IdMap.TheVariants.{Guest, Host, SquashGuest, SquashHost, Bidirectional}
use Rattle.virtiofs_map.specs.declared.cmdline.IdMap.TheVariants.{ForbidGuest}
use Rattle.virtiofs_map_c.specs.declared.arrays.Spec.{Spec}

-- ---- whatever the elements are

-- what is wrong with an array of which no map is made: an element says none, or what they say
pub data ListFault (F : Type 0) : Type 0 where
  Unread : ℕ → F → ListFault F
  Unbuilt : BuildFault → ListFault F

-- the element at that index has that fault, and each before it says a specification
pub record HasUnread {X F : Type 0} (Says : X → Specification → Type 0) (Has : X → F → Type 0) (xs : List X) (index : ℕ)
    (fault : F) : Type 0 where
  pub before : List Specification
  pub are : AllZip Says (take index xs) before
  pub here : IsSomeAnd (slice_get xs index) (λ x. Has x fault)

-- each says a specification, and the list of these has that first fault
pub record HasUnbuilt {X : Type 0} (Says : X → Specification → Type 0) (xs : List X) (fault : BuildFault) : Type 0 where
  pub list : List Specification
  pub are : AllZip Says xs list
  pub first : HasFirstFault list fault

-- the array has that fault
abbrev pub HasListFault : {X F : Type 0} → (X → Specification → Type 0) → (X → F → Type 0) → List X → ListFault F
    → Type 0
HasListFault Says Has xs (Unread index fault) = HasUnread Says Has xs index fault
HasListFault Says Has xs (Unbuilt fault) = HasUnbuilt Says xs fault

-- the array says an accepted list
pub record SaysAccepted {X : Type 0} (Says : X → Specification → Type 0) (xs : List X) : Type 0 where
  pub list : List Specification
  pub are : AllZip Says xs list
  pub accepted : Accepted list

-- ---- specifications as C's structs

-- the specification that a C struct stands for: none where there is no such kind
abbrev pub said : Spec → Option Specification
said spec =
    if spec.kind == 0 then Some (Guest spec.first spec.to spec.count)
    else if spec.kind == 1 then Some (Host spec.first spec.to spec.count)
    else if spec.kind == 2 then Some (SquashGuest spec.first spec.to spec.count)
    else if spec.kind == 3 then Some (SquashHost spec.first spec.to spec.count)
    else if spec.kind == 4 then Some (Bidirectional spec.first spec.to spec.count)
    else if spec.kind == 5 then Some (ForbidGuest spec.first spec.count)
    else None

-- a specification as C's struct
abbrev pub spec_as_c : Specification → Spec
spec_as_c (Guest first to count) = record { kind = 0; first = first; to = to; count = count }
spec_as_c (Host first to count) = record { kind = 1; first = first; to = to; count = count }
spec_as_c (SquashGuest first to count) = record { kind = 2; first = first; to = to; count = count }
spec_as_c (SquashHost first to count) = record { kind = 3; first = first; to = to; count = count }
spec_as_c (Bidirectional guest host count) = record { kind = 4; first = guest; to = host; count = count }
spec_as_c (ForbidGuest first count) = record { kind = 5; first = first; to = 0; count = count }

-- the target of a forbidden range, which nobody reads, is 0
abbrev pub HasNoTarget : Spec → Type 0
HasNoTarget spec = spec.kind ≡ 5 → spec.to ≡ 0

-- ---- arrays of these

-- the struct says the specification
abbrev pub IsSaid : Spec → Specification → Type 0
IsSaid spec one = said spec ≡ Some one

-- the specifications of the array are these, one for one
abbrev pub AreSaid : List Spec → List Specification → Type 0
AreSaid specs list = AllZip IsSaid specs list

-- the array says an accepted list
abbrev pub IsAccepted : List Spec → Type 0
IsAccepted specs = SaysAccepted IsSaid specs

-- there is no such kind
abbrev pub IsUnknown : Spec → Unit {0} → Type 0
IsUnknown spec fault = said spec ≡ None

-- what is wrong with an array of which no map is made: a kind is unknown, or the list has a fault
abbrev pub ArrayFault : Type 0
ArrayFault = ListFault (Unit {0})

-- the array has that fault
abbrev pub HasArrayFault : List Spec → ArrayFault → Type 0
HasArrayFault specs fault = HasListFault IsSaid IsUnknown specs fault

-- the fault as it is told where so many places stand before
abbrev pub counted_on : ℕ → ArrayFault → ArrayFault
counted_on count (Unread index cause) = Unread (count + index) cause
counted_on count (Unbuilt (RangeOverflow spec index direction range_end)) =
    Unbuilt (RangeOverflow spec (count + index) direction range_end)
counted_on count (Unbuilt (Intersects spec index direction)) = Unbuilt (Intersects spec (count + index) direction)
