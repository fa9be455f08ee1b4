use Rattle.virtiofs_findings.proofs.ListLemmas.{decides_not, denied}
use Rattle.virtiofs_findings.proofs.advice.better.is_new.Goals as goal

pub returns-then-not-is_accepted : goal.returns-then-not-is_accepted
returns-then-not-is_accepted g c =
    let none = denied c.is_within_any.result c.is_within_any.ensures in (
      (λ is. (decides_not _ c.is_accepted.ensures c.if-not-is_accepted.true, none.0 is)),
      (λ new. none.1 new.1),
    )

pub returns-else-not-is_accepted : goal.returns-else-not-is_accepted
returns-else-not-is_accepted g c = (
  (λ is. absurd ((denied c.is_accepted.result c.is_accepted.ensures).0 is
      (c.is_accepted.ensures.0 c.if-not-is_accepted.false))),
  (λ new. absurd (new.0 (c.is_accepted.ensures.0 c.if-not-is_accepted.false))),
)
