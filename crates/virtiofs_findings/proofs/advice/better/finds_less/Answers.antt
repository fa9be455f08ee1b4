use Rattle.virtiofs_findings.proofs.ListLemmas.{decides_not, denied}
use Rattle.virtiofs_findings.proofs.advice.better.finds_less.Goals as goal

pub returns-then-not-has_new : goal.returns-then-not-has_new
returns-then-not-has_new g c = (
  (λ is. (decides_not _ c.has_new.ensures c.if-not-has_new.true, c.has_new-then-not-has_new.ensures.0 is)),
  (λ less. c.has_new-then-not-has_new.ensures.1 less.1),
)

pub returns-else-not-has_new : goal.returns-else-not-has_new
returns-else-not-has_new g c = (
  (λ is. absurd ((denied c.has_new.result c.has_new.ensures).0 is (c.has_new.ensures.0 c.if-not-has_new.false))),
  (λ less. absurd (less.0 (c.has_new.ensures.0 c.if-not-has_new.false))),
)
