use Rattle.std.proofs.Common.{refl, arith}
use Rattle.std.proofs.lemmas.Bool.{not-true, not-false}
use Rattle.std.proofs.lemmas.List.{take_all}
use Rattle.std.proofs.lemmas.List.Elements.{All-more}
use Rattle.virtiofs_id_audit.specs.Namespace.{Has}
use Rattle.virtiofs_id_audit.proofs.NamespaceLemmas.{had_run, none_has}
use Rattle.virtiofs_id_audit.proofs.namespace.run_of_none.Goals as goal

pub returns-then-not-run : goal.returns-then-not-run
returns-then-not-run c =
    had_run c.args.ranges.now c.loop-range.range-index c.args.inside _ c.run_without-run.result c.loop-range-test.true
    (not-true _ c.if-not-run.true) c.run_without-run.ensures

pub loop-range-preserved : goal.loop-range-preserved
loop-range-preserved c = (
  omega arith,
  omega arith,
  λ n from to. All-more (λ range. ¬ Has range n) c.args.ranges.now c.loop-range.range-index _ c.loop-range-test.true
      (c.loop-range.invariant.2 n from (omega arith))
      ((c.run_without-run.ensures.each n from (omega arith)).0 (not-false _ c.if-not-run.false)),
)

pub returns : goal.returns
returns c = record {
  from = c.loop-range.invariant.0;
  to = c.loop-range.invariant.1;
  each = λ n from to. (
    λ _. none_has c.args.ranges.now n (rw (take_all c.loop-range.range-index c.args.ranges.now c.loop-range-test.false)
        at (c.loop-range.invariant.2 n from to)),
    λ _. refl,
  );
}
