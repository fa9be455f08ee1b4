use Rattle.virtiofs_id_audit.specs.IdAudit.{Hold}
use Rattle.virtiofs_id_audit.proofs.mending.MendsLemmas.{CutSoFar}
use Rattle.virtiofs_id_audit.proofs.mending.mended.Given as goal

-- the bad ids are cut out of the specifications so far
abbrev pub invariant-loop-spec : goal.invariant-loop-spec
invariant-loop-spec g l = CutSoFar l.spec-items (Hold l.bad.items) l.spec-index l.specs.items
