-- What a list of specifications is mended to, where some ids of the host are bad.
use Rattle.std.specs.Prelude.{◌≡◌, ◌⊎◌, ◌↔◌, ℕ, ◌+◌, ◌<◌, List, length, slice_index_or, Contains, Option, None}
use Rattle.virtiofs_id_audit.specs.IdAudit.{GoesTo}
use Rattle.virtiofs_map.specs.Build.{Accepted}
use Rattle.virtiofs_map.specs.Mapping.{Covers, Becomes}
use Rattle.virtiofs_map.specs.MappingLaws.{LeadsBack}
use Rattle.virtiofs_map.specs.declared.cmdline.IdMap.{IdMap}
use Rattle.virtiofs_map.specs.declared.soft_idmap.entry.Direction.{Direction}
use Rattle.virtiofs_map.specs.declared.soft_idmap.entry.Direction.TheVariants.{GuestToHost, HostToGuest}

-- a bad id of the guest: it becomes an id of the host that does not become it again, or that is bad
pub record IsBad (specs : List IdMap) (bad_host : ℕ → Type 0) (guest : ℕ) : Type 0 where
  pub host : ℕ
  pub goes : GoesTo specs guest host
  pub why : (¬ LeadsBack specs GuestToHost guest host) ⊎ bad_host host

-- the mended list is accepted; it forbids each id of the guest that was forbidden or bad, and no other; each that was
-- not bad becomes what it became; and each id of the host does
pub record Mends (specs : List IdMap) (bad_host : ℕ → Type 0) (mended : List IdMap) : Type 0 where
  pub accepted : Accepted mended
  pub forbids : (guest : ℕ)
      → Becomes mended GuestToHost guest None ↔ (Becomes specs GuestToHost guest None ⊎ IsBad specs bad_host guest)
  pub keeps : (guest : ℕ) (value : Option ℕ) → ¬ IsBad specs bad_host guest
      → Becomes mended GuestToHost guest value ↔ Becomes specs GuestToHost guest value
  pub leaves : (host : ℕ) (value : Option ℕ) → Becomes mended HostToGuest host value ↔ Becomes specs HostToGuest host value

-- the specification covers some number, in one of the directions
abbrev pub CoversSome : IdMap → Type 0
CoversSome spec = (direction : Direction) × (n : ℕ) × Covers spec direction n

-- the range that the specification sets up in that direction ends with the number
pub record EndsWith (spec : IdMap) (direction : Direction) (n : ℕ) : Type 0 where
  pub last : Covers spec direction n
  pub end : ¬ Covers spec direction (n + 1)

-- one of the given ones ends there too
abbrev pub OneEndsWith : List IdMap → Direction → ℕ → Type 0
OneEndsWith specs direction n = (given : IdMap) × Contains specs given × EndsWith given direction n

-- bad ids begin or end between that id and the next one
abbrev pub IsEdge : List IdMap → (ℕ → Type 0) → ℕ → Type 0
IsEdge specs bad_host guest =
    (IsBad specs bad_host guest × (¬ IsBad specs bad_host (guest + 1)))
    ⊎ ((¬ IsBad specs bad_host guest) × IsBad specs bad_host (guest + 1))

-- the mended list is cut no finer than it must be: each specification is a given one or has a range; and each range ends
-- where a given one does, or, in the guest, where bad ids begin or end
pub record IsShort (specs : List IdMap) (bad_host : ℕ → Type 0) (mended : List IdMap) : Type 0 where
  pub some : (spec : IdMap) → Contains mended spec → Contains specs spec ⊎ CoversSome spec
  pub guest : (spec : IdMap) (guest : ℕ) → Contains mended spec → EndsWith spec GuestToHost guest
      → OneEndsWith specs GuestToHost guest ⊎ IsEdge specs bad_host guest
  pub host : (spec : IdMap) (host : ℕ) → Contains mended spec → EndsWith spec HostToGuest host
      → OneEndsWith specs HostToGuest host

-- the specification covers no bad id of the guest
abbrev pub IsClean : List IdMap → (ℕ → Type 0) → IdMap → Type 0
IsClean specs bad_host spec = (guest : ℕ) → Covers spec GuestToHost guest → ¬ IsBad specs bad_host guest

-- the one stands before the other in the list
pub record StandsBefore (specs : List IdMap) (spec later : IdMap) : Type 0 where
  pub at : ℕ
  pub later_at : ℕ
  pub before : at < later_at
  pub inside : later_at < length specs
  pub here : slice_index_or specs at spec ≡ spec
  pub there : slice_index_or specs later_at later ≡ later

-- those that cover no bad id stand in the mended list, in the order of the given one
pub record KeepsClean (specs : List IdMap) (bad_host : ℕ → Type 0) (mended : List IdMap) : Type 0 where
  pub each : (spec : IdMap) → Contains specs spec → IsClean specs bad_host spec → Contains mended spec
  pub order : (spec later : IdMap) → StandsBefore specs spec later → IsClean specs bad_host spec
      → IsClean specs bad_host later → StandsBefore mended spec later
