use Rattle.std.proofs.Common.{◌*◌, length}
use Rattle.virtiofs_map.specs.AuditParts.{AllTried, IsLed, side_of}
use Rattle.virtiofs_map.proofs.audit.AuditTriedLemmas.{LedBelow}
use Rattle.virtiofs_map.proofs.audit.candidates.try_led.Given as goal

-- what the fronts before that place lead to was tried
abbrev pub invariant-loop-place : goal.invariant-loop-place
invariant-loop-place g l = AllTried l.question
    (λ rules. LedBelow l.fronts l.place (IsLed (side_of l.question.fault) rules l.ends)) (l.place * length l.ends)
    l.initial.tried l.tried
