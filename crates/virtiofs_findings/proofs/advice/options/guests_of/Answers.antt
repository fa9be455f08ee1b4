use Rattle.virtiofs_findings.proofs.ListLemmas.{zip3_more}
use Rattle.virtiofs_findings.proofs.advice.options.guests_of.Goals as goal

pub loop-place-preserved : goal.loop-place-preserved
loop-place-preserved g c = rw c.in_ok-push.ensures.items (zip3_more _ _ _ _ _ _ _ _ c.index-given-place.is
    c.index-others-place.is c.loop-place-test.true c.requires.same c.loop-place.invariant c.in_ok-guest_of.ensures)
