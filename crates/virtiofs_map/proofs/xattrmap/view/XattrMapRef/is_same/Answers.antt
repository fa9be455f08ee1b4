use Rattle.std.proofs.Common.{sym, ◌∙◌, arith}
use Rattle.virtiofs_map.specs.RuleParts.{rule_meant}
use Rattle.virtiofs_map.proofs.xattrmap.RuleEqualityLemmas.{differ_at, same_more, same_all}
use Rattle.virtiofs_map.proofs.xattrmap.view.XattrMapRef.is_same.Goals as goal

pub returns-then-not-is_same : goal.returns-then-not-is_same
returns-then-not-is_same c = λ rules others is are.
    differ_at rules others c.loop-place.place (rule_meant c.in-Some-Some.one) (rule_meant c.in-Some-Some.another)
    (c.in-Some-Some.ensures rules is) (c.in-Some-Some.ensures' others are) c.is_same.result c.if-not-is_same.true
    c.is_same.ensures.value

pub loop-place-preserved : goal.loop-place-preserved
loop-place-preserved c = λ rules others is are.
    same_more rules others c.loop-place.place (rule_meant c.in-Some-Some.one) (rule_meant c.in-Some-Some.another)
    (c.in-Some-Some.ensures rules is) (c.in-Some-Some.ensures' others are) c.is_same.result c.if-not-is_same.false
    c.is_same.ensures.value (c.loop-place.invariant rules others is are)

pub returns : goal.returns
returns c = λ rules others is are.
    same_all rules others c.loop-place.place
    (omega (arith, c.len-place-end.ensures rules is, c.loop-place-test.false))
    (sym (c.len-2.ensures others are) ∙ sym c.if-len.false ∙ c.len.ensures rules is)
    (c.loop-place.invariant rules others is are)
