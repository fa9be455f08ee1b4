use Rattle.virtiofs_options.proofs.GuestLemmas.{adds_more}
use Rattle.virtiofs_options.proofs.guest.Guest.take_all.Goals as goal

pub loop-part-preserved : goal.loop-part-preserved
loop-part-preserved g c =
    adds_more _ c.loop-part.self c.take_part.new.self c.args.parts.now c.loop-part.part-index _ c.loop-part-test.true
    c.loop-part.invariant c.in_ok-take_part.ensures
