use Rattle.std.proofs.Common.{length, arith}
use Rattle.std.proofs.lemmas.Nat.{mul-le}
use Rattle.virtiofs_map.proofs.audit.AuditTriedLemmas.{tries_start, tries_next, tries_repeated, tries_end}
use Rattle.virtiofs_map.proofs.audit.candidates.try_led.Goals as goal

pub loop-place-init : goal.loop-place-init
loop-place-init g c = λ rules others asked. tries_start c.args.tried.now

pub loop-place-preserved : goal.loop-place-preserved
loop-place-preserved g c = λ rules others asked.
    tries_next c.loop-place-test.true c.index-fronts-place.is c.as_name.ensures
    (c.loop-place.invariant rules others asked) (c.in_ok-try_led_by.ensures rules others asked) (omega arith)

pub loop-place-preserved-then-is_repeated : goal.loop-place-preserved-then-is_repeated
loop-place-preserved-then-is_repeated g c = λ rules others asked.
    tries_repeated (c.is_repeated.ensures c.if-is_repeated.true) (c.loop-place.invariant rules others asked)
    (omega arith)

pub returns : goal.returns
returns g c = λ rules others asked.
    let many = length c.args.ends.now in
    tries_end c.loop-place-test.false (c.loop-place.invariant rules others asked)
    (mul-le c.loop-place.place many (length c.args.fronts.now) many c.loop-place.auto.place-end (omega arith))
