use Rattle.std.proofs.Common.{arith}
use Rattle.virtiofs_id_audit.proofs.OutsideLemmas.{moved_none, moved_some}
use Rattle.virtiofs_id_audit.proofs.outside.moved.Goals as goal

pub returns-then-past-begin-clause-moves : goal.returns-then-past-begin-clause-moves
returns-then-past-begin-clause-moves c =
    moved_none _ _ _ _ _ _ (omega (arith, c.ranges.to.fits)) (omega arith) (omega arith) c.if-past-begin.true

pub returns-clause-moves : goal.returns-clause-moves
returns-clause-moves c =
    moved_some _ _ _ _ _ _ _ (omega (arith, c.ranges.to.fits)) (omega arith) (omega arith) c.if-past-begin.false
    (omega arith) (omega arith)
