use Rattle.virtiofs_id_audit.proofs.extents.runs.RunLemmas.{IsRun-known, IsRun-both, beq_is}
use Rattle.virtiofs_id_audit.specs.IdAudit.{Hold}
use Rattle.virtiofs_id_audit.proofs.extents.runs.run_astray_or.Goals as goal

pub returns-then-astray-bad : goal.returns-then-astray-bad
returns-then-astray-bad g c =
    IsRun-known _ (Hold c.args.hosts.now) _ _ c.run_astray-astray.ensures c.args.bad
    ((beq_is _ _).0 c.if-astray-bad.true)

pub returns : goal.returns
returns g c =
    IsRun-both _ (Hold c.args.hosts.now) _ _ c.run_astray-astray.ensures c.args.bad c.run_into-into.result _ _
    c.run_into-into.ensures c.min.ensures (λ same. absurd (cc ((beq_is _ _).1 same, c.if-astray-bad.false)))
    (beq_is _ _)
