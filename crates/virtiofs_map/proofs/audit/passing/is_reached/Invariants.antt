use Rattle.std.proofs.Common.{ℕ, List, ◌<◌}
use Rattle.virtiofs_map.specs.AuditParts.{PutsAt}
use Rattle.virtiofs_map.specs.NamesImage.{IsMapOf}
use Rattle.virtiofs_map.specs.Rule.{MappingRule}
use Rattle.virtiofs_map.proofs.audit.passing.is_reached.Given as goal

-- nothing is put before what is left behind a place before that one
abbrev pub invariant-loop-at : goal.invariant-loop-at
invariant-loop-at l = (rules : List MappingRule) → IsMapOf rules l.map → (k : ℕ) → k < l.at → ¬ PutsAt rules l.host k
