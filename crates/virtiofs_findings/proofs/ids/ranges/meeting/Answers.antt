use Rattle.std.proofs.Common.{arith}
use Rattle.virtiofs_findings.proofs.ListLemmas.{decides_not}
use Rattle.virtiofs_findings.proofs.RangeLemmas.{none_met, all_unmet}
use Rattle.virtiofs_findings.proofs.ids.ranges.meeting.Goals as goal

pub loop-place-preserved : goal.loop-place-preserved
loop-place-preserved c =
    none_met _ _ _ _ c.loop-place.invariant c.loop-place-test.true
    (decides_not _ c.meet.ensures c.if-meet.false) (decides_not _ c.meet-in-loop-place.ensures c.if-meet-2.false)

pub returns : goal.returns
returns c = all_unmet _ _ _ (omega (arith, c.loop-place-test.false)) c.loop-place.invariant
