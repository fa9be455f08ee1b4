-- Words of the searches for what is found and advised. Only private functions and proofs cite them.
use Rattle.std.specs.Prelude.{◌≡◌, ℕ, ◌+◌, List, ◌≤◌, if◌then◌else◌, ◌==◌, Option, Some, None, ◌≢◌, ◌<◌, length, ◌⊎◌, slice_get}
use Rattle.virtiofs_map.specs.declared.idmap.UidMap.{UidMap}
use Rattle.virtiofs_findings.specs.Ranges.{MeetsOneAt, MeetInside, MeetOutside, outside_of}
use Rattle.virtiofs_findings.specs.declared.ids.ranges.RangeFault.{RangeFault}
use Rattle.virtiofs_findings.specs.declared.ids.ranges.RangeFault.TheVariants.{Empty, Beyond, TooMany, PastPage, NotGiven, MeetsInside, MeetsOutside}
use Rattle.virtiofs_id_audit.specs.IdAudit.{Hold}
use Rattle.virtiofs_map.specs.declared.cmdline.IdMap.{IdMap}
use Rattle.virtiofs_id_audit.specs.declared.spans.Span.{Span}
use Rattle.virtiofs_map.specs.Mapping.{entry_of, first_of, count_of}
use Rattle.virtiofs_map.specs.declared.soft_idmap.entry.Entry.{Entry}
use Rattle.virtiofs_map.specs.declared.soft_idmap.entry.Direction.TheVariants.{GuestToHost}
use Rattle.virtiofs_findings.specs.IdFindings.{CoversNone}
use Rattle.virtiofs_id_audit.specs.Namespace.{StandsFor}
use Rattle.std.specs.declared.vec.Vec.{Vec}
use Rattle.virtiofs_map.specs.Audit.{Decides}
use Rattle.virtiofs_map.specs.Rule.{MappingRule}
use Rattle.virtiofs_findings.specs.Narrower.{deny_all}

-- ---- ranges

-- the range meets none of those before it
abbrev pub MeetsNone : List UidMap → UidMap → Type 0
MeetsNone before range = (place : ℕ)
    → (¬ MeetsOneAt before place (MeetInside range)) × (¬ MeetsOneAt before place (MeetOutside range))

-- the range meets one of those before it, in that way
abbrev pub MeetsAs : List UidMap → UidMap → RangeFault → Type 0
MeetsAs before range (MeetsInside place) = MeetsOneAt before place (MeetInside range)
MeetsAs before range (MeetsOutside place) = MeetsOneAt before place (MeetOutside range)
MeetsAs before range Empty = ⊥
MeetsAs before range Beyond = ⊥
MeetsAs before range TooMany = ⊥
MeetsAs before range PastPage = ⊥
MeetsAs before range NotGiven = ⊥

-- both lists lead the first id of the range to the same id outside, and the one behind its last
abbrev pub AgreeAround : List UidMap → List UidMap → UidMap → Type 0
AgreeAround shown written range =
    (outside_of shown range.inside_uid ≡ outside_of written range.inside_uid)
    × (outside_of shown (range.inside_uid + range.count) ≡ outside_of written (range.inside_uid + range.count))

-- ---- ids that keep their number

-- these ids, as a range that keeps numbers
abbrev pub range_of : ℕ → ℕ → UidMap
range_of first count = record { inside_uid = first; outside_uid = first; count = count }

-- the ids that an entry covers, if there is one
abbrev pub covered : Option Entry → UidMap
covered None = range_of 0 0
covered (Some entry) = range_of (first_of entry) (count_of entry)

-- the ids of the guest that the specification covers
abbrev pub cover_of : IdMap → UidMap
cover_of spec = covered (entry_of spec GuestToHost)

-- the ids inside the range that are outside it the same
abbrev pub same_of : UidMap → UidMap
same_of range = range_of range.inside_uid (if range.inside_uid == range.outside_uid then range.count else 0)

-- no specification covers the id
abbrev pub IsUncovered : List IdMap → ℕ → Type 0
IsUncovered specs id = (id ≤ 4294967295) × CoversNone specs GuestToHost id

-- the spans have the id, and it is the same outside the namespace
abbrev pub IsSame : List UidMap → List Span → ℕ → Type 0
IsSame ranges spans id = Hold spans id × StandsFor ranges id id

-- ---- names

-- some rule from that place on decides a name
abbrev pub DecidesFrom : List MappingRule → ℕ → Type 0
DecidesFrom rules place = (part : ℕ) × (place ≤ part) × (part < length rules) × Decides rules part

-- a copy of the name `host`; None where it is that name
abbrev pub IsOther : {A : Type 0} → List ℕ → List ℕ → Option (Vec ℕ A) → Type 0
IsOther name host None = host ≡ name
IsOther name host (Some copy) = (copy.items ≡ host) × (host ≢ name)

-- ---- rules held against others

-- the same rule stands at these places
pub record IsSameAt (given : List MappingRule) (place : ℕ) (other : List MappingRule) (at : ℕ) : Type 0 where
  pub rule : MappingRule
  pub here : slice_get given place ≡ Some rule
  pub there : slice_get other at ≡ Some rule

-- from that place on stands no rule, or one that denies all
abbrev pub EndsAt : List MappingRule → ℕ → Type 0
EndsAt other at = (length other ≡ at) ⊎ ((length other ≡ at + 1) × (slice_get other at ≡ Some deny_all))
