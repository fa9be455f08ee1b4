use Rattle.std.proofs.Common.{refl, sym}
use Rattle.std.proofs.lemmas.Bool.{true≢false}
use Rattle.virtiofs_findings.specs.Findings.{IsOfKind}
use Rattle.virtiofs_findings.proofs.ListLemmas.{all_at, any_none, decides_not}
use Rattle.virtiofs_findings.proofs.audit.has_accepted.Goals as goal

pub loop-finding-preserved : goal.loop-finding-preserved
loop-finding-preserved g c =
    all_at (λ it. ¬ IsOfKind c.args.accepted.now it) c.args.found.now c.loop-finding.finding-index c.finding-item.result c.finding-item.is
    c.loop-finding-test.true c.loop-finding.invariant (decides_not _ c.is_accepted.ensures c.if-is_accepted.false)

pub returns-then-is_accepted : goal.returns-then-is_accepted
returns-then-is_accepted g c = (
  (λ _. (c.loop-finding.finding-index, c.finding-item.result, c.loop-finding-test.true, sym c.finding-item.is, c.is_accepted.ensures.0 c.if-is_accepted.true)),
  (λ _. refl),
)

pub returns : goal.returns
returns g c = (
  (λ yes. absurd (true≢false (sym yes))),
  (λ some. absurd (any_none (IsOfKind c.args.accepted.now) c.args.found.now _ c.loop-finding-test.false c.loop-finding.invariant some)),
)
