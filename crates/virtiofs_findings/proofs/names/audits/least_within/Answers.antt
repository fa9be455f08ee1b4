use Rattle.virtiofs_findings.proofs.names.audits.least_within.Goals as goal

pub returns : goal.returns
returns g c = c.ask.ensures c.args.map.now c.args.other.now c.as_ref.ensures c.as_ref-2.ensures
