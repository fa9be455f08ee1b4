use Rattle.std.proofs.Common.{refl}
use Rattle.virtiofs_id_audit.proofs.OutsideLemmas.{id_stays, id_goes}
use Rattle.virtiofs_id_audit.proofs.outside.id_moved.Goals as goal

pub returns-in_default : goal.returns-in_default
returns-in_default c = id_stays c.args.way c.args.range.now _ c.args.id refl refl c.in_default.ensures.moves

pub returns : goal.returns
returns c = id_goes c.args.way c.args.range.now _ c.in-Some.there c.args.id refl refl c.in-Some.ensures.order c.in-Some.ensures.moves
