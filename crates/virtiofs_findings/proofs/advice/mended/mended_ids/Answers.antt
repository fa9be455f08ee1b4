use Rattle.virtiofs_findings.proofs.NarrowerLemmas.{narrower_made}
use Rattle.virtiofs_findings.proofs.advice.mended.mended_ids.Goals as goal

pub returns : goal.returns
returns g c = narrower_made c.mended-2.result c.args.set.now.map _ c.mended-2.ensures.mends
