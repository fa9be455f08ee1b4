use Rattle.std.proofs.Common.{◌≤◌, length, arith}
use Rattle.virtiofs_map.proofs.xattrmap.view.XattrMapRef.rule.Goals as goal

pub returns : goal.returns
returns c = λ rules is.
    (let long : 48 ≤ length c.args.self.bytes.now = omega (arith, is.begun) in
    c.read_rule.ensures rules
    (rw (c.part.ensures long (is.parts 2 (omega arith)), c.part-2.ensures long (is.parts 3 (omega arith)))
    is.stored))
