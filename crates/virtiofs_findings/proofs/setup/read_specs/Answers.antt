use Rattle.std.proofs.Common.{refl}
use Rattle.virtiofs_findings.proofs.SetUpLemmas.{adds_no_specs}
use Rattle.virtiofs_findings.proofs.setup.read_specs.Goals as goal

pub returns-in-Ok-clause-says : goal.returns-in-Ok-clause-says
returns-in-Ok-clause-says g c = adds_no_specs _ _ _ _ _ _ refl c.in-Ok.ensures.read c.in-Ok.ensures.accepted
