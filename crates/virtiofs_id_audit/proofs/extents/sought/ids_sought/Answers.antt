use Rattle.std.proofs.Common.{refl}
use Rattle.virtiofs_id_audit.specs.IdAuditParts.{IsSought}
use Rattle.virtiofs_id_audit.specs.IdAudit.{Hold}
use Rattle.virtiofs_id_audit.proofs.SpanLemmas.{HoldBelow-pass, HoldBelow-push}
use Rattle.virtiofs_id_audit.proofs.extents.sought.SoughtLemmas.{all_sought, all_below}
use Rattle.virtiofs_id_audit.proofs.extents.sought.ids_sought.Goals.{then-run+in_ok-push, else-run}
use Rattle.virtiofs_id_audit.proofs.extents.sought.ids_sought.Goals as goal

pub run_of-run-requires-clause-starts : goal.run_of-run-requires-clause-starts
run_of-run-requires-clause-starts g c = rw c.deref.ensures.value c.in_ok-starts.ensures.starts

pub loop-next-preserved : goal.loop-next-preserved
loop-next-preserved g c =
    let is = rw c.deref-in-loop-next.ensures.value at c.run_of-run.ensures in
    elim c.if-run.branch [
      | then-run+in_ok-push w ↦
          rw (w.ids-is, w.in_ok-push.ensures.items)
          (HoldBelow-push (IsSought c.args.sought c.args.map.now (Hold c.in_ok-hosts.hosts.items)) _ _ _ is _ _
          w.if-run.true refl refl c.loop-next.invariant)
      | else-run w ↦
          rw w.ids-is
          (HoldBelow-pass (IsSought c.args.sought c.args.map.now (Hold c.in_ok-hosts.hosts.items)) _ _ _ is _
          w.if-run.false c.loop-next.invariant)
    ]

pub returns-clause-ids : goal.returns-clause-ids
returns-clause-ids g c =
    all_sought c.args.sought c.args.map.now (Hold c.in_ok-hosts.hosts.items) (Hold c.args.hosts.now) _ _ _
    c.loop-next-test.false c.in_ok-hosts.ensures.hold c.loop-next.invariant
    (rw c.deref-2.ensures.value at c.in_ok-merged.ensures.hold)

pub returns-clause-below : goal.returns-clause-below
returns-clause-below g c =
    all_below c.args.sought c.args.map.now (Hold c.in_ok-hosts.hosts.items) (Hold c.args.hosts.now) _ _ _
    c.loop-next-test.false c.in_ok-hosts.ensures.hold c.loop-next.invariant
    (rw c.deref-2.ensures.value at c.in_ok-merged.ensures.hold) c.in_ok-merged.ensures.runs
