use Rattle.virtiofs_host.proofs.AllowedLemmas.{given_more}
use Rattle.virtiofs_host.proofs.allowed.are_given.Goals as goal

pub loop-id-preserved : goal.loop-id-preserved
loop-id-preserved c =
    given_more c.args.given.now c.args.first c.loop-id.id c.in-Some.next c.loop-id.invariant.0 c.loop-id.invariant.1
    c.in-Some.ensures.0 c.in-Some.ensures.1
