use Rattle.std.proofs.Common.{arith}
use Rattle.virtiofs_id_audit.specs.IdAudit.{IsAstray}
use Rattle.virtiofs_id_audit.proofs.SpanLemmas.{none_more}
use Rattle.virtiofs_id_audit.proofs.extents.sought.first_astray.Goals as goal

pub returns-then-run-ge-GREATEST-clause-least : goal.returns-then-run-ge-GREATEST-clause-least
returns-then-run-ge-GREATEST-clause-least g c = λ n astray.
    none_more (IsAstray c.args.map.now) _ _ _ c.run_trip-run.ensures.run 0 c.if-run.false
    (λ m low before. c.loop-run.invariant.1 m before) n (omega arith)
    (omega (arith, astray.goes.is_id, c.if-run-ge-GREATEST.true)) astray

pub loop-run-preserved : goal.loop-run-preserved
loop-run-preserved g c = (
  omega (arith, c.if-run-ge-GREATEST.false),
  λ n below. none_more (IsAstray c.args.map.now) _ _ _ c.run_trip-run.ensures.run 0 c.if-run.false
      (λ m low before. c.loop-run.invariant.1 m before) n (omega arith) below,
)
