use Rattle.std.proofs.Common.{rules}
use Rattle.std.proofs.lemmas.List.{take_all}
use Rattle.virtiofs_id_audit.proofs.OutsideLemmas.{moved_no_span, moved_one_more, moved_unmoved, none_here, some_here}
use Rattle.virtiofs_id_audit.proofs.outside.moved_all.Goals as goal

pub returns-then-is_empty : goal.returns-then-is_empty
returns-then-is_empty g c =
    moved_unmoved c.args.way _ _ _ (none_here _ _ c.is_empty.ensures c.if-is_empty.true) (search rules)

pub loop-span-init : goal.loop-span-init
loop-span-init g c = rw c.new-all.ensures.items (moved_no_span c.args.way c.args.ranges.now c.args.spans.now)

pub loop-span-preserved : goal.loop-span-preserved
loop-span-preserved g c =
    moved_one_more c.args.way _ _ _ _ _ _ c.loop-span-test.true (some_here _ _ c.is_empty.ensures c.if-is_empty.false)
    c.loop-span.invariant c.in_ok-push_moved.ensures

pub returns : goal.returns
returns g c =
    rw (take_all c.loop-span.span-index c.args.spans.now c.loop-span-test.false) at c.loop-span.invariant
