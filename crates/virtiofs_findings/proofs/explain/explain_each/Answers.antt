use Rattle.virtiofs_findings.proofs.ListLemmas.{zip_more}
use Rattle.virtiofs_findings.proofs.explain.explain_each.Goals as goal

pub loop-place-preserved : goal.loop-place-preserved
loop-place-preserved c = rw c.in_ok-push.ensures.items (zip_more _ _ _ _ _ _ c.index-questions-place.is
    c.loop-place-test.true c.loop-place.invariant c.in_ok-explain.ensures)
