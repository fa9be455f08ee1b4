use Rattle.std.proofs.Common.{◌≡◌, ◌%◌, Option, IsSomeAnd, sym, subst, arith}
use Rattle.virtiofs_map.specs.Rule.{MappingRule, Prefix}
use Rattle.virtiofs_map.proofs.xattrmap.WalkAnswerLemmas.{prefix_decides}
use Rattle.virtiofs_map.proofs.xattrmap.view.XattrMapRef.decode.Goals as goal

pub returns-in-Some : goal.returns-in-Some
returns-in-Some c = λ side rules name is answers.
    (let even : c.args.answer % 4 ≡ 0 = omega (arith, c.if-not-is_odd.true, c.if-is_high.false) in
    let by = prefix_decides side rules name c.args.answer is.client.few answers even in
    let same = c.in-Some.ensures rules by.rule is by.here in
    let prepend : by.rule.prepend ≡ c.in-Some.prepend.now = cc in
    subst (λ (o : Option MappingRule). IsSomeAnd o (λ rule. (rule.kind ≡ Prefix)
    × (rule.prepend ≡ c.in-Some.prepend.now))) (sym by.decides) (by.kind, prepend))

pub returns-in-None : goal.returns-in-None
returns-in-None c = λ side rules name is answers.
    (let even : c.args.answer % 4 ≡ 0 = omega (arith, c.if-not-is_odd.true, c.if-is_high.false) in
    let by = prefix_decides side rules name c.args.answer is.client.few answers even in
    let same = c.in-None.ensures rules by.rule is by.here in cc)
