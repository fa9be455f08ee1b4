use Rattle.virtiofs_id_audit.proofs.extents.starts.StartLemmas.{StartsSoFar}
use Rattle.virtiofs_id_audit.proofs.extents.starts.starts_of.Given as goal

-- the starts are those of the pieces so far
abbrev pub invariant-loop-piece : goal.invariant-loop-piece
invariant-loop-piece g l = StartsSoFar l.map l.starts.items l.piece-iterator
