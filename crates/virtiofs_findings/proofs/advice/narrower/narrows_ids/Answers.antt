use Rattle.std.proofs.Common.{◌∙◌, subst, sym}
use Rattle.virtiofs_findings.specs.Narrower.{NarrowerIds}
use Rattle.virtiofs_findings.proofs.NarrowerLemmas.{narrower_self}
use Rattle.virtiofs_findings.proofs.ListLemmas.{decides_not}
use Rattle.virtiofs_findings.proofs.advice.narrower.narrows_ids.Goals as goal

pub returns-then-are_same-clause-narrower : goal.returns-then-are_same-clause-narrower
returns-then-are_same-clause-narrower g c = λ _. narrower_self c.args.given.now.map c.args.other.now.map
    (sym c.specs.ensures.specs ∙ c.are_same.ensures.0 c.if-are_same.true ∙ c.specs-2.ensures.specs)

pub returns-clause-narrower : goal.returns-clause-narrower
returns-clause-narrower g c = λ yes. subst (NarrowerIds c.args.given.now.map)
    (sym (sym c.specs-3.ensures.specs ∙ c.are_same-2.ensures.0 yes ∙ c.as_slice.ensures.value)) c.in_ok-mended.ensures

pub returns-clause-same : goal.returns-clause-same
returns-clause-same g c = λ same. absurd (decides_not _ c.are_same.ensures c.if-are_same.false
    (c.specs.ensures.specs ∙ same ∙ sym c.specs-2.ensures.specs))
