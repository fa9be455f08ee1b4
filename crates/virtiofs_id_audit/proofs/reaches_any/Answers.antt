use Rattle.std.proofs.Common.{Some, None}
use Rattle.virtiofs_id_audit.specs.IdAudit.{Hold}
use Rattle.virtiofs_id_audit.proofs.IdAuditLemmas.{into_any}
use Rattle.virtiofs_id_audit.proofs.reaches_any.Goals as goal

pub returns-in_default : goal.returns-in_default
returns-in_default g c =
    into_any c.args.map.now (Hold c.in_ok-merged.merged.items) (Hold c.args.spans.now) None c.in_ok-merged.ensures.hold
    (rw c.deref.ensures.value at c.in_default.ensures)

pub returns : goal.returns
returns g c =
    rw c.id_of.ensures
    (into_any c.args.map.now (Hold c.in_ok-merged.merged.items) (Hold c.args.spans.now) (Some c.in-Some.n)
    c.in_ok-merged.ensures.hold (rw c.deref.ensures.value at c.in-Some.ensures))
