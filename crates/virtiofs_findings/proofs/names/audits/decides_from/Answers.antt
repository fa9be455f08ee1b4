use Rattle.std.proofs.Common.{inl, inr, arith, subst, sym}
use Rattle.std.proofs.lemmas.Bool.{cases_lt, true≢false}
use Rattle.virtiofs_map.specs.Audit.{Decides}
use Rattle.virtiofs_findings.proofs.ListLemmas.{decides_not}
use Rattle.virtiofs_findings.proofs.names.audits.decides_from.Goals as goal

pub loop-part-preserved : goal.loop-part-preserved
loop-part-preserved g c = λ k from below. elim (cases_lt k c.loop-part.part) [
  | inl before ↦ c.loop-part.invariant k from before
  | inr last ↦ subst (λ n. ¬ Decides c.args.map.now n) (omega (arith, below, last))
      (decides_not c.decides.result c.decides.ensures.names c.if-decides.false)
]

pub returns : goal.returns
returns g c = (
  (λ yes. absurd (true≢false (sym yes))),
  (λ some. absurd (c.loop-part.invariant some.0 some.1
      (omega (arith, some.2, c.loop-part-test.false, c.rule_count-part-end.ensures)) some.3)),
)
