use Rattle.virtiofs_map.specs.AuditParts.{AllTried}
use Rattle.virtiofs_map.proofs.audit.AuditTriedLemmas.{GoesAfter, LedBelow}
use Rattle.virtiofs_map.proofs.audit.candidates.try_wholes.Given as goal

-- the ends before that place were tried, after the front
abbrev pub invariant-loop-place : goal.invariant-loop-place
invariant-loop-place g l =
    AllTried l.question (λ rules. LedBelow l.ends l.place (GoesAfter l.front.bytes.now)) l.place l.initial.tried l.tried
