use Rattle.std.proofs.Common.{◌++◌, sym, ◌∙◌, ap, arith}
use Rattle.virtiofs_map.proofs.audit.AuditLeastLemmas.{tries_fewer}
use Rattle.virtiofs_map.proofs.audit.AuditTriedLemmas.{tries_start, tries_next, tries_end, wholes_end}
use Rattle.virtiofs_map.proofs.audit.candidates.try_wholes.Goals as goal

pub loop-place-init : goal.loop-place-init
loop-place-init g c = λ rules others asked. tries_start c.args.tried.now

pub loop-place-preserved : goal.loop-place-preserved
loop-place-preserved g c = λ rules others asked.
    tries_next c.loop-place-test.true c.index-ends-place.is c.as_name.ensures
    (c.loop-place.invariant rules others asked)
    (tries_fewer {most = 1} (c.in_ok-try_name.ensures.tried rules others asked)
    (λ name whole. whole ∙ sym (c.as_name-name.ensures ∙ c.in_ok-whole.ensures)) (omega arith))
    (omega arith)

pub returns-then-not-is_first : goal.returns-then-not-is_first
returns-then-not-is_first g c = λ rules others asked.
    wholes_end c.args.front.bytes.now c.requires c.loop-place-test.true c.index-ends-place.is
    (c.as_name-name.ensures ∙ c.in_ok-whole.ensures ∙ ap (λ key. c.args.front.bytes.now ++ key) c.as_name.ensures)
    (sym c.is_first.ensures ∙ c.if-not-is_first.true) (c.loop-place.invariant rules others asked)
    (let l = c.loop-place-test.true in omega arith)

pub returns : goal.returns
returns g c = λ rules others asked.
    tries_end c.loop-place-test.false (c.loop-place.invariant rules others asked) c.loop-place.auto.place-end
