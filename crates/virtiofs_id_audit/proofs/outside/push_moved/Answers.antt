use Rattle.std.proofs.Common.{Some, None, rules}
use Rattle.std.proofs.lemmas.List.{take_all}
use Rattle.virtiofs_id_audit.proofs.HeldLemmas.{hold_push, push_hold}
use Rattle.virtiofs_id_audit.proofs.OutsideLemmas.{adds_none, adds_more}
use Rattle.virtiofs_id_audit.proofs.outside.push_moved.Goals as goal

pub loop-range-init : goal.loop-range-init
loop-range-init g c = adds_none _ c.args.way c.args.ranges.now c.args.span

pub loop-range-preserved-in_default : goal.loop-range-preserved-in_default
loop-range-preserved-in_default g c =
    adds_more _ _ _ c.args.way _ _ None _ _ c.loop-range-test.true c.loop-range.invariant (λ moved. search rules)
    c.in_default.ensures.moves

pub loop-range-preserved : goal.loop-range-preserved
loop-range-preserved g c =
    rw c.in_ok-push.ensures.items
    (adds_more _ _ _ c.args.way _ _ (Some c.in-Some.one) _ _ c.loop-range-test.true c.loop-range.invariant
    (λ moved. (hold_push _ c.in-Some.one moved, push_hold _ c.in-Some.one moved)) c.in-Some.ensures.moves)

pub returns : goal.returns
returns g c =
    rw (take_all c.loop-range.range-index c.args.ranges.now c.loop-range-test.false) at c.loop-range.invariant
