use Rattle.std.proofs.Common.{arith}
use Rattle.virtiofs_id_audit.specs.IdAudit.{GoesInto, Hold}
use Rattle.virtiofs_id_audit.proofs.SpanLemmas.{none_more}
use Rattle.virtiofs_id_audit.proofs.extents.sought.least_into.Goals as goal

pub returns-then-run : goal.returns-then-run
returns-then-run g c =
    let run = c.run_into-run.ensures in
    record {
      is_bad = (c.loop-next.invariant.0, (run.each c.loop-next.next (omega arith) run.from).0 c.if-run.true);
      none_before = λ n before (low, goes). c.loop-next.invariant.1 n low before goes;
    }

pub loop-next-preserved : goal.loop-next-preserved
loop-next-preserved g c = (
  omega (arith, c.loop-next.invariant.0, c.run_into-run.ensures.from),
  none_more (GoesInto c.args.map.now (Hold c.args.spans.now)) _ _ _ c.run_into-run.ensures c.args.from c.if-run.false
      c.loop-next.invariant.1,
)

pub returns : goal.returns
returns g c = λ n (low, goes).
    c.loop-next.invariant.1 n low (omega (arith, goes.goes.is_id, c.loop-next-test.false)) goes
