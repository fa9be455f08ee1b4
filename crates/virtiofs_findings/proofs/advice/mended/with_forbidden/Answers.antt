use Rattle.virtiofs_findings.proofs.NarrowerLemmas.{narrower_forbid, narrower_self}
use Rattle.virtiofs_findings.proofs.advice.mended.with_forbidden.Goals as goal

pub loop-span-init : goal.loop-span-init
loop-span-init g c = narrower_self c.args.specs.now c.in_ok-more.more.items c.in_ok-more.ensures.items

pub loop-span-preserved : goal.loop-span-preserved
loop-span-preserved g c = rw c.in_ok-push.ensures.items (narrower_forbid c.args.specs.now _ _ _ c.loop-span.invariant)
