-- What the parts of mending say. Only private functions cite these definitions.
use Rattle.std.specs.Prelude.{◌≡◌, ◌⊎◌, ◌↔◌, ℕ, ◌+◌, List, length, Contains, Option, None}
use Rattle.std.specs.Prelude.{IsSomeAnd, IfSome, ⊤}
use Rattle.virtiofs_id_audit.specs.IdAudit.{Has, Hold}
use Rattle.virtiofs_id_audit.specs.Mending.{CoversSome, EndsWith}
use Rattle.virtiofs_id_audit.specs.declared.spans.Span.{Span}
use Rattle.virtiofs_map.specs.Build.{Accepted, HasSource, HasTarget}
use Rattle.virtiofs_map.specs.Mapping.{entry_of, count_of, Covers, Maps}
use Rattle.virtiofs_map.specs.declared.cmdline.IdMap.{IdMap}
use Rattle.virtiofs_map.specs.declared.soft_idmap.entry.Direction.{Direction}
use Rattle.virtiofs_map.specs.declared.soft_idmap.entry.Direction.TheVariants.{GuestToHost, HostToGuest}

-- ---- what is left of specifications

-- one of the specifications covers the number and maps it to `value`
abbrev pub Listed : List IdMap → Direction → ℕ → Option ℕ → Type 0
Listed specs direction n value = (spec : IdMap) × Contains specs spec × Maps spec direction n value

-- the part does to the ids of the guest in the span what the specification does, and nothing else
pub record IsPart (spec : IdMap) (span : Span) (part : IdMap) : Type 0 where
  pub guest : (n : ℕ) (value : Option ℕ) → Maps part GuestToHost n value ↔ (Maps spec GuestToHost n value × Has span n)
  pub host : entry_of part HostToGuest ≡ None
  pub source : IfSome (entry_of spec GuestToHost) HasSource → IfSome (entry_of part GuestToHost) HasSource
  pub target : IfSome (entry_of part GuestToHost) HasTarget

-- the parts do so to the ids in the spans, one part for each
pub record AreParts (spec : IdMap) (spans : List Span) (parts : List IdMap) : Type 0 where
  pub count : length parts ≡ length spans
  pub accepted : Accepted parts
  pub guest : (n : ℕ) (value : Option ℕ)
      → Listed parts GuestToHost n value ↔ (Maps spec GuestToHost n value × Hold spans n)
  pub host : (n : ℕ) (value : Option ℕ) → ¬ Listed parts HostToGuest n value
  pub each : (part : IdMap) → Contains parts part
      → (span : Span) × Contains spans span × ((n : ℕ) → Covers part GuestToHost n ↔ Has span n)

-- the half does to ids of the host what the specification does, and nothing else
pub record IsHostHalf (spec half : IdMap) : Type 0 where
  pub guest : entry_of half GuestToHost ≡ None
  pub host : entry_of half HostToGuest ≡ entry_of spec HostToGuest
  pub count : IsSomeAnd (entry_of spec GuestToHost) (λ entry.
      IsSomeAnd (entry_of half HostToGuest) (λ other. count_of other ≡ count_of entry))

-- where the specification acts on ids of the guest, it does not on those of the host
abbrev pub HasNoHostHalf : IdMap → Type 0
HasNoHostHalf spec = (n m : ℕ) → Covers spec GuestToHost n → ¬ Covers spec HostToGuest m

-- the number is not cut out, as an id of the guest may be
abbrev pub Stays : (ℕ → Type 0) → Direction → ℕ → Type 0
Stays bad GuestToHost n = ¬ bad n
Stays bad HostToGuest n = ⊤

-- the bad ids of the guest are cut out of the specifications
pub record AreCut (specs : List IdMap) (bad : ℕ → Type 0) (cut : List IdMap) : Type 0 where
  pub accepted : Accepted cut
  pub same : (direction : Direction) (n : ℕ) (value : Option ℕ)
      → Listed cut direction n value ↔ (Listed specs direction n value × Stays bad direction n)

-- the remnant is the specification or has a range; its ranges end where the specification's do, or, in the guest, before
-- a bad id
pub record IsRemnant (spec : IdMap) (bad : ℕ → Type 0) (remnant : IdMap) : Type 0 where
  pub some : (remnant ≡ spec) ⊎ CoversSome remnant
  pub guest : (n : ℕ) → EndsWith remnant GuestToHost n → EndsWith spec GuestToHost n ⊎ ((¬ bad n) × bad (n + 1))
  pub host : (n : ℕ) → EndsWith remnant HostToGuest n → EndsWith spec HostToGuest n
