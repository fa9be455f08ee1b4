use Rattle.std.proofs.Common.{length, drop, refl, sym, ap, ◌∙◌, arith}
use Rattle.std.proofs.lemmas.List.{take_rest, drop_at}
use Rattle.std.proofs.lemmas.Bool.{false≢true}
use Rattle.virtiofs_map.specs.Names.{client_answer}
use Rattle.virtiofs_map.proofs.audit.AuditLeastLemmas.{tries_none, tries_fewer}
use Rattle.virtiofs_map.proofs.audit.AuditTriedLemmas.{rests_start, rests_end, tries_next, tries_end}
use Rattle.virtiofs_map.proofs.audit.candidates.try_rests.Goals as goal

pub loop-place-init : goal.loop-place-init
loop-place-init g c = λ rules others asked.
    rests_start rules c.args.patterns.now c.args.added.now c.count_before-start.result c.args.tried.now
    c.count_before-start.ensures

pub loop-place-preserved : goal.loop-place-preserved
loop-place-preserved g c = λ rules others asked.
    let many = length c.args.added.now in
    tries_next c.loop-place-test.true c.index-patterns-place.is c.as_name-pattern.ensures
    (c.loop-place.invariant rules others asked)
    (tries_fewer {most = 1} (c.in_ok-try_name.ensures.tried rules others asked)
    (λ name (split, passes). sym (take_rest c.as_name-pattern.result.bytes.now many ∙ ap (drop many) split
    ∙ drop_at c.args.added.now name many refl)) (omega arith))
    (omega arith)

pub loop-place-preserved-then-not-is_put_at : goal.loop-place-preserved-then-not-is_put_at
loop-place-preserved-then-not-is_put_at g c = λ rules others asked.
    let many = length c.args.added.now in
    tries_next c.loop-place-test.true c.index-patterns-place.is c.as_name-pattern.ensures
    (c.loop-place.invariant rules others asked)
    (tries_none {most = 0} c.loop-place.tried
    (λ name (split, passes) is. absurd
    (false≢true (sym c.if-not-is_put_at.true ∙ (c.is_put_at.ensures rules asked.map).1
    (ap (client_answer rules) (ap (drop many) split ∙ drop_at c.args.added.now name many refl) ∙ passes)))))
    (omega arith)

pub returns-then-not-starts_with : goal.returns-then-not-starts_with
returns-then-not-starts_with g c = λ rules others asked.
    rests_end rules c.requires c.count_before-start.ensures c.loop-place.auto.place c.loop-place-test.true
    c.index-patterns-place.is c.as_name-pattern.ensures (sym c.starts_with.ensures.value ∙ c.if-not-starts_with.true)
    (c.loop-place.invariant rules others asked) (let l = c.loop-place-test.true in omega arith)

pub returns : goal.returns
returns g c = λ rules others asked.
    tries_end c.loop-place-test.false (c.loop-place.invariant rules others asked)
    (omega (arith, c.count_before-start.ensures.at_most, c.loop-place.auto.place-end))
