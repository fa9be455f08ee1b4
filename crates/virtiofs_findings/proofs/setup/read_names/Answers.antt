use Rattle.std.proofs.Common.{refl}
use Rattle.virtiofs_findings.proofs.SetUpLemmas.{adds_no_rules, adds_rules}
use Rattle.virtiofs_findings.proofs.setup.read_names.Goals as goal

pub returns-in-Ok-clause-says : goal.returns-in-Ok-clause-says
returns-in-Ok-clause-says g c = adds_no_rules _ _ _ _ _ _ c.in-Some.is refl c.in-Ok.ensures.read

pub returns-in_ok-tell-in-Err-clause-says : goal.returns-in_ok-tell-in-Err-clause-says
returns-in_ok-tell-in-Err-clause-says g c =
    adds_rules _ _ _ _ _ _ _ c.in-Some.is c.in-Err.ensures.refused
    (c.tells_fault.ensures.0 c.if-not-tells_fault.false) c.in_ok-why-in-Err.ensures c.in_ok-tell-in-Err.ensures
