use Rattle.std.proofs.Common.{arith}
use Rattle.virtiofs_map.proofs.xattrmap.view.XattrMapRef.len.Goals as goal

pub returns : goal.returns
returns c = λ rules is.
    (rw (c.part.ensures (omega (arith, is.begun)) (is.parts 2 (omega arith))) (omega (arith, is.stored.long)))
