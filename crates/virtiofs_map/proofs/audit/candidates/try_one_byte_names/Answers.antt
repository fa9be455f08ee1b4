use Rattle.std.proofs.Common.{◌≡◌, ◌+◌, arith, subst}
use Rattle.virtiofs_map.specs.AuditParts.{IsBad, Tries}
use Rattle.virtiofs_map.proofs.audit.AuditTriedLemmas.{ByteBelow, bytes_start, bytes_next}
use Rattle.virtiofs_map.proofs.audit.candidates.try_one_byte_names.Goals as goal

pub loop-byte-init : goal.loop-byte-init
loop-byte-init g c = λ rules others asked. bytes_start c.args.tried.now

pub loop-byte-preserved : goal.loop-byte-preserved
loop-byte-preserved g c = λ rules others asked.
    bytes_next (c.loop-byte.invariant rules others asked) (c.in_ok-try_name.ensures.tried rules others asked)
    (let l = c.loop-byte.auto.byte in omega arith)

pub returns-in_ok-try_name-clause-tried : goal.returns-in_ok-try_name-clause-tried
returns-in_ok-try_name-clause-tried g c = λ rules others asked.
    let last : c.loop-byte.byte + 1 ≡ 256 = omega arith in
    subst (λ n. Tries (IsBad c.args.question.now rules others)
    (ByteBelow n) 255 c.args.tried.now c.try_name.new.self) last
    (bytes_next (c.loop-byte.invariant rules others asked) (c.in_ok-try_name.ensures.tried rules others asked)
    (omega arith))

pub returns-in_ok-try_name-clause-counted : goal.returns-in_ok-try_name-clause-counted
returns-in_ok-try_name-clause-counted g c = omega (arith, c.in_ok-try_name.ensures.counted)
