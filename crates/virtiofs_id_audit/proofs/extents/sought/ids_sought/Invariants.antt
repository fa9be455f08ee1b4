use Rattle.std.proofs.Common.{◌-◌}
use Rattle.virtiofs_id_audit.specs.IdAudit.{Hold}
use Rattle.virtiofs_id_audit.specs.IdAuditParts.{HoldBelow, IsSought}
use Rattle.virtiofs_id_audit.proofs.extents.sought.ids_sought.Given as goal

-- the spans have those of the ids so far
abbrev pub invariant-loop-next : goal.invariant-loop-next
invariant-loop-next g l = HoldBelow (IsSought l.sought l.map (Hold l.hosts.items)) l.next l.ids.items

abbrev pub decreases-loop-next : goal.decreases-loop-next
decreases-loop-next g l = 4294967295 - l.next
