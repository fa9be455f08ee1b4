use Rattle.std.proofs.Common.{◌≡◌, ◌+◌, ◌-◌, refl, subst, take, arith}
use Rattle.virtiofs_findings.specs.Findings.{Each}
use Rattle.virtiofs_findings.specs.Lists.{Adds}
use Rattle.virtiofs_findings.specs.PairFindings.{FindsPair}
use Rattle.virtiofs_findings.specs.Report.{FindsWithEarlier}
use Rattle.virtiofs_findings.proofs.ReportLemmas.{adds_none, adds_more, adds_all}
use Rattle.virtiofs_findings.proofs.audit.push_each_two.Goals as goal

pub loop-place-init : goal.loop-place-init
loop-place-init g c = adds_none (FindsWithEarlier c.args.sets.now) 1 _ _ refl

pub loop-before-init : goal.loop-before-init
loop-before-init g c =
    adds_none (λ first earlier. FindsPair first (c.loop-place.place + 1) earlier c.index-sets-place.result) 1 _ _ refl

pub loop-before-preserved : goal.loop-before-preserved
loop-before-preserved g c =
    adds_more (λ first earlier. FindsPair first (c.loop-place.place + 1) earlier c.index-sets-place.result) _
    _ _ _ _ _ _ c.index-sets-before.is (omega arith) refl c.loop-before.invariant c.in_ok-push_pair.ensures

pub loop-place-preserved : goal.loop-place-preserved
loop-place-preserved g c =
    let all : c.loop-before.before ≡ c.loop-place.place + 1 - 1 =
    omega (arith, c.loop-before-test.false, c.loop-before.auto.before-end) in
    adds_more (FindsWithEarlier c.args.sets.now) _ _ _ _ _ _ _ c.index-sets-place.is c.loop-place-test.true refl
    c.loop-place.invariant
    (subst (λ n. Adds (Each (λ first earlier. FindsPair first (c.loop-place.place + 1) earlier c.index-sets-place.result) 1
    (take n c.args.sets.now)) c.loop-place.found.items c.loop-before.found.items) all c.loop-before.invariant)

pub returns : goal.returns
returns g c = adds_all _ _ _ _ _ c.loop-place-test.false c.loop-place.invariant
