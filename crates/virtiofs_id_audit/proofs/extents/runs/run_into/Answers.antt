use Rattle.virtiofs_id_audit.specs.IdAudit.{Hold}
use Rattle.virtiofs_id_audit.proofs.extents.runs.RunLemmas.{IsRun-into}
use Rattle.virtiofs_id_audit.proofs.extents.runs.run_into.Goals as goal

pub returns : goal.returns
returns g c =
    IsRun-into _ (Hold c.args.spans.now) _ _ _ _ c.stretch.ensures.accepted c.stretch.ensures.stretch
    c.stretch.ensures.first c.requires.is_id c.run_becoming-run.ensures c.min.ensures
