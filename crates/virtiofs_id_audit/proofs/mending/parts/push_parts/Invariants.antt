use Rattle.virtiofs_id_audit.proofs.mending.parts.PartLemmas.{PartsSoFar}
use Rattle.virtiofs_id_audit.proofs.mending.parts.push_parts.Given as goal

-- the parts in the spans so far were added
abbrev pub invariant-loop-span : goal.invariant-loop-span
invariant-loop-span g l = PartsSoFar l.spec l.spans l.span-index l.fn.out.items l.out.items
