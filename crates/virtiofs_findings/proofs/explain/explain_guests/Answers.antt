use Rattle.virtiofs_findings.proofs.ListLemmas.{zip3_more}
use Rattle.virtiofs_findings.proofs.explain.explain_guests.Goals as goal

pub loop-place-preserved : goal.loop-place-preserved
loop-place-preserved c = rw c.in_ok-push.ensures.items (zip3_more _ _ _ _ _ _ _ _ c.index-guests-place.is
    c.index-sets-place.is c.loop-place-test.true c.requires c.loop-place.invariant c.in_ok-explain_each.ensures)
