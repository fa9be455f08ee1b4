use Rattle.std.proofs.Common.{◌-◌}
use Rattle.virtiofs_map.specs.AuditParts.{AllTried}
use Rattle.virtiofs_map.proofs.audit.AuditTriedLemmas.{ByteBelow}
use Rattle.virtiofs_map.proofs.audit.candidates.try_one_byte_names.Given as goal

-- the names of the bytes before that one were tried
abbrev pub invariant-loop-byte : goal.invariant-loop-byte
invariant-loop-byte g l =
    AllTried l.question (λ rules. ByteBelow l.byte) (l.byte - 1) l.initial.tried l.tried
