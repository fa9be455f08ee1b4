use Rattle.std.proofs.Common.{◌≡◌, ◌<◌, ◌∙◌, ◌+◌, ap, arith, length, refl, sym}
use Rattle.std.proofs.lemmas.Option.{slice_get-get_or}
use Rattle.virtiofs_findings.specs.Narrower.{deny_all}
use Rattle.virtiofs_findings.proofs.NarrowerLemmas.{agree_dropped, agree_kept, agree_none, narrower_rules, same_here}
use Rattle.virtiofs_findings.proofs.ListLemmas.{decides_not}
use Rattle.virtiofs_findings.proofs.advice.narrower.narrows_rules.Goals as goal
use Rattle.virtiofs_findings.proofs.advice.narrower.narrows_rules.Goals.{then-is_same_at, else-is_same_at+else-decides}

pub loop-place-init : goal.loop-place-init
loop-place-init g c = (agree_none c.args.given.now c.args.other.now, λ same. refl)

pub overflow_add-at : goal.overflow_add-at
overflow_add-at g c = omega (arith, c.loop-place.invariant.0.few, c.loop-place-test.true, c.rule_count-place-end.type_inv)

pub loop-place-preserved : goal.loop-place-preserved
loop-place-preserved g c =
    let inside : c.loop-place.place < length c.args.given.now =
    omega (arith, c.loop-place-test.true, c.rule_count-place-end.ensures) in
    elim c.if-is_same_at.branch [
      | then-is_same_at w ↦ rw w.at-is (
        agree_kept _ _ _ _ c.loop-place.invariant.0 (c.is_same_at.ensures.0 w.if-is_same_at.true),
        λ same. ap (λ n. n + 1) (c.loop-place.invariant.1 same),
      )
      | else-is_same_at+else-decides w ↦ rw w.at-is (
        agree_dropped _ _ _ _ _ c.loop-place.invariant.0 (slice_get-get_or _ _ deny_all inside)
            (decides_not _ w.decides.ensures.names w.if-decides.false),
        λ same. absurd (decides_not _ c.is_same_at.ensures w.if-is_same_at.false (same_here _ _ _ _ inside same
            (c.loop-place.invariant.1 same))),
      )
    ]

pub returns-then-decides-clause-same : goal.returns-then-decides-clause-same
returns-then-decides-clause-same g c = λ same. absurd (decides_not _ c.is_same_at.ensures c.if-is_same_at.false
    (same_here _ _ _ _
    (omega (arith, c.loop-place-test.true, c.rule_count-place-end.ensures)) same (c.loop-place.invariant.1 same)))

pub returns-clause-narrower : goal.returns-clause-narrower
returns-clause-narrower g c = λ yes. narrower_rules _ _ _ _
    (omega (arith, c.loop-place-test.false, c.rule_count-place-end.ensures))
    (omega (arith, c.loop-place.auto.place-end, c.rule_count-place-end.ensures)) c.loop-place.invariant.0
    (c.ends_at.ensures.ends yes)

pub returns-clause-same : goal.returns-clause-same
returns-clause-same g c = λ same.
    let past : length c.args.given.now ≡ c.loop-place.place =
    omega (arith, c.loop-place-test.false, c.loop-place.auto.place-end, c.rule_count-place-end.ensures) in
    c.ends_at.ensures.past (ap length same ∙ past ∙ sym (c.loop-place.invariant.1 same))
