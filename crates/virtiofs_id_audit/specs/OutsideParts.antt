-- Ids that are moved, range by range and span by span. Only private functions cite these words.
use Rattle.std.specs.Prelude.{◌≡◌, ◌↔◌, ◌⊎◌, ℕ, ◌+◌, ◌-◌, ◌≤◌, List, Contains}
use Rattle.virtiofs_id_audit.specs.IdAudit.{Has, Hold}
use Rattle.virtiofs_map.specs.Mapping.{InRange}
use Rattle.virtiofs_id_audit.specs.declared.spans.Span.{Span}
use Rattle.virtiofs_map.specs.declared.idmap.UidMap.{UidMap}
use Rattle.virtiofs_id_audit.specs.declared.outside.Way.{Way}
use Rattle.virtiofs_id_audit.specs.Outside.{MovesBy}

-- of `count` ids from `from` on, the id is moved to the one as far above `to`
pub record Moves (from to count id moved : ℕ) : Type 0 where
  pub has : InRange from count id
  pub same : moved ≡ to + (id - from)
  pub is_id : id ≤ 4294967295
  pub is_id_moved : moved ≤ 4294967295

-- one of the ranges moves the id so
abbrev pub MovesAmong : Way → List UidMap → ℕ → ℕ → Type 0
MovesAmong way ranges id moved = (range : UidMap) × Contains ranges range × MovesBy way range id moved

-- the spans have what those before had, and what the ranges move of the span
pub record AddsMoved (before : List Span) (way : Way) (ranges : List UidMap) (span : Span) (after : List Span) : Type
    0 where
  pub each : (moved : ℕ) → Hold after moved
      ↔ (Hold before moved ⊎ ((id : ℕ) × Has span id × MovesAmong way ranges id moved))
