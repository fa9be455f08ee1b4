use Rattle.virtiofs_id_audit.proofs.images.AgainLemmas.{SweptTo}
use Rattle.virtiofs_id_audit.proofs.images.reached_again.Given as goal

-- what the images so far have again
abbrev pub invariant-loop-image : goal.invariant-loop-image
invariant-loop-image g l = SweptTo l.image-items l.image-index l.reached l.again.items
