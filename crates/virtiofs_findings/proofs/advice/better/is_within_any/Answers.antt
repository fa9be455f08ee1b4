use Rattle.std.proofs.Common.{refl, sym}
use Rattle.std.proofs.lemmas.Bool.{true≢false}
use Rattle.virtiofs_findings.specs.Advice.{IsWithin}
use Rattle.virtiofs_findings.proofs.ListLemmas.{all_at, any_none, decides_not}
use Rattle.virtiofs_findings.proofs.advice.better.is_within_any.Goals as goal

pub loop-other-preserved : goal.loop-other-preserved
loop-other-preserved g c =
    all_at (λ it. ¬ IsWithin c.args.finding.now it) c.args.others.now c.loop-other.other-index c.other-item.result c.other-item.is
    c.loop-other-test.true c.loop-other.invariant (decides_not _ c.is_within.ensures c.if-is_within.false)

pub returns-then-is_within : goal.returns-then-is_within
returns-then-is_within g c = (
  (λ _. (c.loop-other.other-index, c.other-item.result, c.loop-other-test.true, sym c.other-item.is, c.is_within.ensures.0 c.if-is_within.true)),
  (λ _. refl),
)

pub returns : goal.returns
returns g c = (
  (λ yes. absurd (true≢false (sym yes))),
  (λ some. absurd (any_none (IsWithin c.args.finding.now) c.args.others.now _ c.loop-other-test.false c.loop-other.invariant some)),
)
