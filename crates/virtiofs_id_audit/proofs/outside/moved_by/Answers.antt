use Rattle.virtiofs_id_audit.proofs.OutsideLemmas.{moved_out, moved_in}
use Rattle.virtiofs_id_audit.proofs.outside.moved_by.Goals as goal

pub returns-in-Outwards-clause-moves : goal.returns-in-Outwards-clause-moves
returns-in-Outwards-clause-moves c =
    rw c.in-Outwards.is (moved_out _ c.args.range.now c.args.span c.moved.ensures.moves)

pub returns-in-Inwards-clause-moves : goal.returns-in-Inwards-clause-moves
returns-in-Inwards-clause-moves c =
    rw c.in-Inwards.is (moved_in _ c.args.range.now c.args.span c.moved-in-Inwards.ensures.moves)
