-- the spans have those of the ids before `next` that no range has
use Rattle.std.proofs.Common.{◌-◌, ◌≤◌}
use Rattle.virtiofs_id_audit.specs.IdAuditParts.{HoldBelow}
use Rattle.virtiofs_id_audit.specs.Namespace.{HasSome}
use Rattle.virtiofs_id_audit.proofs.namespace.ids_of_none.Given as goal

abbrev pub invariant-loop-first : goal.invariant-loop-first
invariant-loop-first g l = (l.next ≤ 4294967296) × HoldBelow (λ n. ¬ HasSome l.ranges n) l.next l.ids.items

abbrev pub decreases-loop-first : goal.decreases-loop-first
decreases-loop-first g l = 4294967296 - l.next
