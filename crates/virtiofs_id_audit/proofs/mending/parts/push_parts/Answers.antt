use Rattle.virtiofs_id_audit.proofs.mending.parts.PartLemmas.{PartsSoFar-more}
use Rattle.virtiofs_id_audit.proofs.mending.parts.push_parts.Goals as goal

pub loop-span-preserved : goal.loop-span-preserved
loop-span-preserved g c =
    PartsSoFar-more _ _ _ _ _ _ _ _ c.requires.runs c.loop-span-test.true c.requires.source
    (c.requires.inside c.loop-span.span-index _ c.loop-span-test.true) c.part.ensures c.loop-span.invariant
    c.in_ok-push.ensures.items
