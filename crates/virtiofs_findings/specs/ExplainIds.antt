-- What becomes of one id, layer by layer: by the specifications, and by the ranges of the daemon's namespace.
use Rattle.std.specs.Prelude.{◌≡◌, ℕ, List, [], ◌∷◌, Contains, slice_get, take, unwrap_or, Option, Some, None, IsSomeAnd, ◌↔◌, IsTrue}
use Rattle.std.specs.Option.{option_map_or}
use Rattle.virtiofs_map.specs.Mapping.{Covers, Becomes}
use Rattle.virtiofs_map.specs.declared.cmdline.IdMap.{IdMap}
use Rattle.virtiofs_map.specs.declared.idmap.UidMap.{UidMap}
use Rattle.virtiofs_map.specs.declared.soft_idmap.entry.Direction.{Direction}
use Rattle.virtiofs_map.specs.declared.soft_idmap.entry.Direction.TheVariants.{GuestToHost, HostToGuest}
use Rattle.virtiofs_findings.specs.IdFindings.{CoversNone}
use Rattle.virtiofs_id_audit.specs.Outside.{MovesBy}
use Rattle.virtiofs_findings.specs.declared.explain.ids.Layer.{Layer}
use Rattle.virtiofs_findings.specs.declared.explain.ids.Layers.{Layers}
use Rattle.virtiofs_findings.specs.declared.explain.ids.IdWays.{IdWays}
use Rattle.virtiofs_id_audit.specs.declared.outside.Way.{Way}
use Rattle.virtiofs_id_audit.specs.declared.outside.Way.TheVariants.{Inwards, Outwards}

-- the specification at that place, counted from 0, covers the id; no place if none does
abbrev pub CoversAt : List IdMap → Direction → ℕ → Option ℕ → Type 0
CoversAt specs direction id (Some place) = IsSomeAnd (slice_get specs place) (λ spec. Covers spec direction id)
CoversAt specs direction id None = CoversNone specs direction id

-- what the specifications make of the id: by the one at that place, it becomes what the map looks up
pub record IsBySpecs (specs : List IdMap) (direction : Direction) (id : ℕ) (layer : Layer) : Type 0 where
  pub place : CoversAt specs direction id layer.place
  pub becomes : Becomes specs direction id layer.becomes

-- none of the ranges moves the id
abbrev pub MovesNone : List UidMap → Way → ℕ → Type 0
MovesNone ranges way id = (range : UidMap) → Contains ranges range → (moved : ℕ) → ¬ MovesBy way range id moved

-- the range at that place, counted from 0, is the first that moves the id, and it becomes that one; neither a place nor
-- an id if none moves it
abbrev pub MovesAt : List UidMap → Way → ℕ → Option ℕ → Option ℕ → Type 0
MovesAt ranges way id (Some place) (Some moved) =
    IsSomeAnd (slice_get ranges place) (λ range. MovesBy way range id moved) × MovesNone (take place ranges) way id
MovesAt ranges way id None None = MovesNone ranges way id
MovesAt ranges way id place moved = ⊥

-- what the ranges make of the id that comes to them; no layer if none does, or there are no ranges
abbrev pub IsByRanges : List UidMap → Way → Option ℕ → Option Layer → Type 0
IsByRanges [] way id layer = layer ≡ None
IsByRanges (range ∷ ranges) way None layer = layer ≡ None
IsByRanges (range ∷ ranges) way (Some id) layer =
    IsSomeAnd layer (λ it. MovesAt (range ∷ ranges) way id it.place it.becomes)

-- what an id of the host is inside the namespace: Linux shows one that no range has as 65534
abbrev pub inside_of : ℕ → Option Layer → ℕ
inside_of id None = id
inside_of id (Some layer) = unwrap_or layer.becomes 65534

-- an id of the guest on its way to the host: first the specifications, then the ranges
pub record MeetsToHost (specs : List IdMap) (ranges : List UidMap) (id : ℕ) (layers : Layers) : Type 0 where
  pub by_specs : IsBySpecs specs GuestToHost id layers.specs
  pub by_ranges : IsByRanges ranges Outwards layers.specs.becomes layers.ranges

-- an id of the host on its way to the guest: first the ranges, then the specifications
pub record MeetsToGuest (specs : List IdMap) (ranges : List UidMap) (id : ℕ) (layers : Layers) : Type 0 where
  pub by_ranges : IsByRanges ranges Inwards (Some id) layers.ranges
  pub by_specs : IsBySpecs specs HostToGuest (inside_of id layers.ranges) layers.specs

-- the layers that an id meets in that direction
abbrev pub Meets : Direction → List IdMap → List UidMap → ℕ → Layers → Type 0
Meets GuestToHost specs ranges id layers = MeetsToHost specs ranges id layers
Meets HostToGuest specs ranges id layers = MeetsToGuest specs ranges id layers

-- the id at the end of the way in that direction; None if calls fail
abbrev pub end_of : Direction → Layers → Option ℕ
end_of GuestToHost layers = option_map_or (λ ranges. ranges.becomes) layers.ranges layers.specs.becomes
end_of HostToGuest layers = layers.specs.becomes

-- the direction of the way back
abbrev pub back_from : Direction → Direction
back_from GuestToHost = HostToGuest
back_from HostToGuest = GuestToHost

-- the layers that the id meets in that direction, if there is one
abbrev pub MeetsBack : Direction → List IdMap → List UidMap → Option ℕ → Option Layers → Type 0
MeetsBack direction specs ranges None back = back ≡ None
MeetsBack direction specs ranges (Some id) back = IsSomeAnd back (Meets direction specs ranges id)

-- the way in that direction, if there is one, leads to the id
abbrev pub LeadsTo : Direction → Option Layers → ℕ → Type 0
LeadsTo direction way id = IsSomeAnd way (λ layers. end_of direction layers ≡ Some id)

-- the explanation of an id on its way in that direction, and of the id at its end on its way back
pub record ExplainsId (specs : List IdMap) (ranges : List UidMap) (direction : Direction) (id : ℕ) (ways : IdWays) :
    Type 0 where
  pub there : Meets direction specs ranges id ways.there
  pub back : MeetsBack (back_from direction) specs ranges (end_of direction ways.there) ways.back
  pub round : IsTrue ways.is_round ↔ LeadsTo (back_from direction) ways.back id
