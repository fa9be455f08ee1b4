use Rattle.virtiofs_map.specs.AuditParts.{AllTried}
use Rattle.virtiofs_map.proofs.audit.AuditTriedLemmas.{IsAfter, LedBelow}
use Rattle.virtiofs_map.proofs.audit.candidates.try_rests.Given as goal

-- what is left of the patterns before that place was tried
abbrev pub invariant-loop-place : goal.invariant-loop-place
invariant-loop-place g l =
    AllTried l.question (λ rules. LedBelow l.patterns l.place (IsAfter rules l.added)) l.place l.initial.tried l.tried
