use Rattle.std.proofs.Common.{ℕ, ◌+◌, ◌-◌, Some, sym, ◌∙◌, arith}
use Rattle.virtiofs_id_audit.proofs.RoundTripLemmas.{ReturnsBy-forbidden, ReturnsBy-all, ReturnsBy-each, back-each}
use Rattle.virtiofs_id_audit.proofs.RoundTripLemmas.{back-all}
use Rattle.virtiofs_id_audit.proofs.round_trips.round_trip.Goals as goal

pub returns-then-not-is_one_to_one-clause-returns : goal.returns-then-not-is_one_to_one-clause-returns
returns-then-not-is_one_to_one-clause-returns g c =
    ReturnsBy-all c.args.map.now c.stretch-there.result c.stretch-back.result _ c.args.n c.in-Some.host
    c.in-Some-start.to c.stretch-there.ensures.stretch c.stretch-back.ensures.stretch c.stretch-there.ensures.first
    c.stretch-back.ensures.first (sym c.is_one_to_one.ensures ∙ c.if-not-is_one_to_one.true) c.in-Some.ensures
    c.in-Some-start.ensures c.all_to_one.ensures

pub returns-then-is_one_to_one-clause-returns : goal.returns-then-is_one_to_one-clause-returns
returns-then-is_one_to_one-clause-returns g c =
    ReturnsBy-each c.args.map.now c.stretch-there.result c.stretch-back.result _ c.args.n c.in-Some.host _
    (λ (k : ℕ). Some (c.in-Some-start.to + (k - c.args.n))) c.stretch-there.ensures.stretch
    c.stretch-back.ensures.stretch c.stretch-there.ensures.first c.stretch-back.ensures.first
    (sym c.is_one_to_one.ensures ∙ c.if-not-is_one_to_one.false) c.in-Some.ensures (omega arith) (omega arith)
    (λ k from to. back-each c.stretch-back.result c.in-Some-start.to c.in-Some.host (k - c.args.n)
    c.stretch-back.ensures.first (sym c.is_one_to_one-2.ensures ∙ c.if-is_one_to_one.true) c.in-Some-start.ensures)
    c.one_to_one.ensures

pub returns-else-is_one_to_one-clause-returns : goal.returns-else-is_one_to_one-clause-returns
returns-else-is_one_to_one-clause-returns g c =
    ReturnsBy-each _ _ _ _ _ _ _ (λ (k : ℕ). Some c.in-Some-start.to) c.stretch-there.ensures.stretch
    c.stretch-back.ensures.stretch c.stretch-there.ensures.first c.stretch-back.ensures.first
    (sym c.is_one_to_one.ensures ∙ c.if-not-is_one_to_one.false) c.in-Some.ensures (omega arith) (omega arith)
    (λ k from to. back-all _ _ _ _ (sym c.is_one_to_one-2.ensures ∙ c.if-is_one_to_one.false)
    c.stretch-back.ensures.stretch.named c.in-Some-start.ensures) c.all_to_one-else-is_one_to_one.ensures

pub returns-in_default-clause-returns : goal.returns-in_default-clause-returns
returns-in_default-clause-returns g c =
    ReturnsBy-forbidden c.args.map.now c.stretch-there.result c.stretch-there.ensures.stretch c.in_default.ensures
