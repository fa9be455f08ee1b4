-- Ids that are moved into a namespace and out of it.
use Rattle.std.specs.Prelude.{◌↔◌, ℕ, List, Option, Some, None}
use Rattle.virtiofs_id_audit.specs.IdAudit.{Has, Hold}
use Rattle.virtiofs_id_audit.specs.declared.spans.Span.{Span}
use Rattle.virtiofs_map.specs.declared.idmap.UidMap.{UidMap}
use Rattle.virtiofs_id_audit.specs.Namespace.{StandsBy, StandsFor}
use Rattle.virtiofs_id_audit.specs.declared.outside.Way.{Way}
use Rattle.virtiofs_id_audit.specs.declared.outside.Way.TheVariants.{Inwards, Outwards}

-- the range moves the id so
abbrev pub MovesBy : Way → UidMap → ℕ → ℕ → Type 0
MovesBy Outwards range id moved = StandsBy range moved id
MovesBy Inwards range id moved = StandsBy range id moved

-- the ranges move the id so; without ranges it stays
abbrev pub MovesTo : Way → List UidMap → ℕ → ℕ → Type 0
MovesTo Outwards ranges id moved = StandsFor ranges moved id
MovesTo Inwards ranges id moved = StandsFor ranges id moved

-- the span has the id, if there is one
abbrev pub HasIf : Option Span → ℕ → Type 0
HasIf None id = ⊥
HasIf (Some span) id = Has span id

-- the spans have what the ids of the others are then, and no other ids
pub record AreMoved (way : Way) (ranges : List UidMap) (spans all : List Span) : Type 0 where
  pub each : (moved : ℕ) → Hold all moved ↔ ((id : ℕ) × Hold spans id × MovesTo way ranges id moved)
