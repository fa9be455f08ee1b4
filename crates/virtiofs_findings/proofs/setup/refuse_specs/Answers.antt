use Rattle.std.proofs.Common.{sym, ◌∙◌}
use Rattle.virtiofs_findings.proofs.SetUpLemmas.{adds_fault}
use Rattle.virtiofs_findings.proofs.setup.refuse_specs.Goals as goal

pub returns : goal.returns
returns g c =
    adds_fault _ _ _ _ _ _ _ _ (sym c.in-Some.is ∙ c.place_of.ensures) c.in_ok-why.ensures c.tell.ensures
