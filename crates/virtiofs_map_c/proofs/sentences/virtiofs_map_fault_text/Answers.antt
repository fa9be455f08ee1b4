use Rattle.std.proofs.Common.{rules, arith}
use Rattle.virtiofs_map_c.specs.Replies.{IsFront}
use Rattle.virtiofs_map_c.proofs.FrontLemmas.{IsFront-start, front-told, front-cut}
use Rattle.virtiofs_map_c.proofs.sentences.virtiofs_map_fault_text.Goals as goal

pub returns-then-out-len : goal.returns-then-out-len
returns-then-out-len c =
    let is : IsFront c.args.out.now c.say-4.new.len c.say-4.new.out =
    c.say-4.ensures _ (c.say-3.ensures _ (c.say-2.ensures _ (c.say.ensures _ (IsFront-start _)))) in
    record { text = (is.text, rw c.cut_whole.ensures (front-cut c.args.out.now _ _ is c.if-out-len.true)) }

pub returns : goal.returns
returns c =
    let is : IsFront c.args.out.now c.say-4.new.len c.say-4.new.out =
    c.say-4.ensures _ (c.say-3.ensures _ (c.say-2.ensures _ (c.say.ensures _ (IsFront-start _)))) in
    record { text = (is.text, front-told c.args.out.now _ _ is (search rules) (omega (arith, c.if-out-len.false))) }
