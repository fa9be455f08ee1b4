use Rattle.virtiofs_id_audit.proofs.ImageLemmas.{CountsSoFar}
use Rattle.virtiofs_id_audit.proofs.images.images_of.Given as goal

-- the spans are those of the pieces so far
abbrev pub invariant-loop-piece : goal.invariant-loop-piece
invariant-loop-piece g l = CountsSoFar l.map l.images.items l.piece-iterator
