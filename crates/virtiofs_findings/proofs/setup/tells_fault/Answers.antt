use Rattle.std.proofs.Common.{refl}
use Rattle.virtiofs_findings.proofs.SetUpLemmas.{rule_fault}
use Rattle.virtiofs_findings.proofs.setup.tells_fault.Goals as goal

pub returns-in-Some : goal.returns-in-Some
returns-in-Some g c = ((λ _. rule_fault c.args.error.now _ c.in-Some.is), (λ _. refl))
