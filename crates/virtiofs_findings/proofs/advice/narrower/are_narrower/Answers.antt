use Rattle.std.proofs.Common.{◌<◌, ◌∙◌, arith, length, sym, take}
use Rattle.std.proofs.lemmas.Bool.{true≢false}
use Rattle.virtiofs_findings.specs.Narrower.{NarrowerSet}
use Rattle.virtiofs_findings.proofs.ListLemmas.{more_at, zip_more}
use Rattle.virtiofs_findings.proofs.NarrowerLemmas.{holds_at}
use Rattle.virtiofs_findings.proofs.advice.narrower.are_narrower.Goals as goal

pub loop-place-preserved : goal.loop-place-preserved
loop-place-preserved g c =
    let within : c.loop-place.place < length c.args.others.now =
    omega (arith, c.loop-place-test.true, c.if-given-others.false) in
    rw (more_at c.args.others.now c.loop-place.place c.index-others-place.result c.index-others-place.is within)
    (zip_more NarrowerSet c.args.given.now (take c.loop-place.place c.args.others.now) c.loop-place.place
    c.index-given-place.result c.index-others-place.result c.index-given-place.is c.loop-place-test.true
    c.loop-place.invariant (c.in_ok-is_narrower.ensures.narrower c.if-not-branch.false))

pub returns-then-not-branch-clause-same : goal.returns-then-not-branch-clause-same
returns-then-not-branch-clause-same g c = λ all. absurd (true≢false (sym (c.in_ok-is_narrower.ensures.same
    (holds_at _ _ _ _ _ _ c.loop-place-test.true c.index-given-place.is c.index-others-place.is all))
    ∙ c.if-not-branch.true))
