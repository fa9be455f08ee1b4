use Rattle.std.proofs.Common.{rules}
use Rattle.virtiofs_id_audit.specs.IdAudit.{Hold}
use Rattle.virtiofs_id_audit.proofs.mending.MendsLemmas.{CutSoFar-start, CutSoFar-more, IsMended-cut}
use Rattle.virtiofs_id_audit.proofs.mending.mended.Goals as goal

pub loop-spec-init : goal.loop-spec-init
loop-spec-init g c =
    rw c.new-specs.ensures.items (CutSoFar-start c.specs-spec-items.result.now (Hold c.in_ok-bad.bad.items))

pub loop-spec-preserved : goal.loop-spec-preserved
loop-spec-preserved g c =
    CutSoFar-more _ (Hold c.in_ok-bad.bad.items) _ _ _ _
    (rw c.specs-spec-items.ensures.specs c.specs-spec-items.ensures.accepted) c.loop-spec-test.true
    c.loop-spec.invariant (rw c.deref.ensures.value at c.in_ok-push_cut.ensures.cut)
    (rw c.deref.ensures.value at c.in_ok-push_cut.ensures.remnants)
    (rw c.deref.ensures.value at c.in_ok-push_cut.ensures.clean)

pub returns : goal.returns
returns g c =
    let is =
    IsMended-cut _ _ _ _ (Hold c.args.bad_host.now) _ _ c.specs-spec-items.ensures.accepted
    c.specs-spec-items.ensures.specs c.loop-spec-test.false c.loop-spec.invariant c.in_ok-bad.ensures.ids
    c.in_ok-bad.ensures.runs (rw c.deref-2.ensures.value at c.in_ok-push_parts.ensures) in
    search rules
