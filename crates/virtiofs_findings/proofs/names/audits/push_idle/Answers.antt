use Rattle.virtiofs_findings.specs.NameFindings.{DecidesWritten}
use Rattle.virtiofs_findings.specs.declared.finding.Evidence.TheVariants.{Rule}
use Rattle.virtiofs_findings.specs.declared.finding.Kind.TheVariants.{IdleRule}
use Rattle.virtiofs_findings.proofs.NameLemmas.{found_unless}
use Rattle.virtiofs_findings.proofs.names.audits.push_idle.Goals as goal

pub returns : goal.returns
returns g c =
    found_unless _ (DecidesWritten c.args.map.now c.args.written c.args.place) c.decides_written-idle.result c.args.number
    IdleRule (Rule c.args.place) _ _ c.decides_written-idle.ensures
    (rw c.then_some-evidence.ensures at c.push_found.ensures)
