use Rattle.std.proofs.Common.{arith}
use Rattle.virtiofs_findings.proofs.RangeLemmas.{lines_more, none_wrong_more, none_wrong_all}
use Rattle.virtiofs_findings.proofs.ids.ranges.first_fault.Goals as goal

pub loop-place-init : goal.loop-place-init
loop-place-init g c = ((λ k fault below. absurd (omega (arith, below))), c.new-lines.ensures.bytes)

pub fault_of-requires : goal.fault_of-requires
fault_of-requires g c = grind arith

pub loop-place-preserved : goal.loop-place-preserved
loop-place-preserved g c = (
  none_wrong_more _ _ _ _ c.loop-place.invariant.0 c.loop-place-test.true c.in_default.ensures,
  lines_more _ _ _ _ _ c.loop-place-test.true c.loop-place.invariant.1 c.in_ok-push_line.ensures,
)

pub returns : goal.returns
returns g c = none_wrong_all _ _ _ (omega (arith, c.loop-place-test.false)) c.loop-place.invariant.0
