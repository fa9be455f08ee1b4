use Rattle.virtiofs_map.specs.Audit.{HasFault}
use Rattle.virtiofs_map.proofs.ForCallers.{answers_ok}
use Rattle.virtiofs_findings.proofs.names.audits.least.Goals as goal

pub returns : goal.returns
returns g c =
    let map = c.args.map.now in
    let other = c.args.other.now in
    answers_ok c.ask.result (HasFault c.args.fault map other)
    (c.ask.ensures map other c.as_ref.ensures c.as_ref-2.ensures)
