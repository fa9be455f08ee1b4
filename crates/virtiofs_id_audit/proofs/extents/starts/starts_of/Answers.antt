use Rattle.std.proofs.Common.{arith}
use Rattle.virtiofs_id_audit.proofs.extents.starts.StartLemmas.{StartsSoFar-push, AreStarts-merged}
use Rattle.virtiofs_id_audit.proofs.extents.starts.starts_of.Goals as goal

pub loop-piece-preserved : goal.loop-piece-preserved
loop-piece-preserved g c =
    rw c.in_ok-push.ensures.items
    (StartsSoFar-push _ _ _ _ _ c.pieces-piece-items.ensures.accepted c.loop-piece.invariant c.in-Some.ensures.steps _
    c.in-Some-start.ensures (omega arith))

pub returns-clause-starts : goal.returns-clause-starts
returns-clause-starts g c =
    AreStarts-merged _ _ _ _ _ c.loop-piece.invariant c.in-None.ensures.steps
    (rw c.deref.ensures.value at c.in_ok-merged.ensures.hold)
