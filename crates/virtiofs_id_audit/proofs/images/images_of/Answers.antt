use Rattle.std.proofs.Common.{arith}
use Rattle.virtiofs_id_audit.proofs.ImageLemmas.{CountsSoFar-more, piece_given, AreImages-all}
use Rattle.virtiofs_id_audit.proofs.images.images_of.Goals as goal

pub loop-piece-preserved : goal.loop-piece-preserved
loop-piece-preserved g c =
    let is = piece_given _ _ _ _ _ c.loop-piece.invariant c.in-Some.ensures.steps in
    CountsSoFar-more _ _ _ _ _ _ c.loop-piece.invariant c.in-Some.ensures.steps (λ host before.
    c.in_ok-push_image.ensures c.args.map.now 0 host c.pieces-piece-items.ensures.accepted is (omega arith) before)

pub returns : goal.returns
returns g c = AreImages-all _ _ _ _ c.loop-piece.invariant c.in-None.ensures.steps

pub loop-piece-smaller : goal.loop-piece-smaller
loop-piece-smaller g c =
    let gives = c.in-Some.ensures.steps in
    rw gives.2 (omega (arith, gives.1, gives.0.order, gives.0.within))
