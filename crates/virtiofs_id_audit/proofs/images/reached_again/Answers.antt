use Rattle.std.proofs.Common.{arith}
use Rattle.virtiofs_id_audit.proofs.images.AgainLemmas.{SweptTo-start, SweptTo-more, SweptTo-end}
use Rattle.virtiofs_id_audit.proofs.images.reached_again.Goals as goal

pub loop-image-init : goal.loop-image-init
loop-image-init g c = rw c.new-again.ensures.items (SweptTo-start c.deref-image-items.result.now)

pub loop-image-preserved : goal.loop-image-preserved
loop-image-preserved g c =
    let same = c.deref-image-items.ensures.value in
    SweptTo-more _ _ _ _ _ _ _ _ (record { first = 0; last = 0 }) c.loop-image.invariant
    (rw (← same) at c.in_ok-sorted.ensures.spans) (rw (← same) at c.in_ok-sorted.ensures.firsts)
    c.loop-image-test.true (omega arith) (omega arith) (omega arith) c.in_ok-push_between.ensures.hold

pub returns : goal.returns
returns g c = λ id.
    rw (← c.in_ok-sorted.ensures.times id, ← c.deref-image-items.ensures.value)
    (SweptTo-end _ _ _ _ c.loop-image.invariant c.loop-image-test.false id)
