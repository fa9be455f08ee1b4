use Rattle.virtiofs_findings.proofs.NameLemmas.{from_one}
use Rattle.virtiofs_findings.proofs.names.audits.decides_written.Goals as goal

pub returns : goal.returns
returns g c =
    let one = from_one c.args.map.now c.args.written c.args.place c.if-place-written.false in
    ((λ yes. one.0 (c.decides.ensures.names.0 yes)), (λ some. c.decides.ensures.names.1 (one.1 some)))
