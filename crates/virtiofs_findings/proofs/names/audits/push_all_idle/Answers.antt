use Rattle.std.proofs.Common.{refl, sym, ◌+◌, ◌∙◌, zero-add}
use Rattle.std.specs.List.{range_with_len}
use Rattle.std.proofs.lemmas.List.FromFn.{get_or-range_with_len, length-range_with_len}
use Rattle.virtiofs_findings.specs.NameFindings.{FindsIdleAt}
use Rattle.virtiofs_findings.proofs.ReportLemmas.{adds_none, adds_more, adds_all}
use Rattle.virtiofs_findings.proofs.names.audits.push_all_idle.Goals as goal

pub loop-place-init : goal.loop-place-init
loop-place-init g c = adds_none (FindsIdleAt c.args.number c.args.map.now c.args.written) 1 _ _ refl

pub loop-place-preserved : goal.loop-place-preserved
loop-place-preserved g c =
    let below = c.loop-place-test.true in
    adds_more (FindsIdleAt c.args.number c.args.map.now c.args.written) (range_with_len 0 c.args.written) c.loop-place.place
    (c.loop-place.place + 1) c.loop-place.place _ _ _
    (sym (get_or-range_with_len 0 c.args.written c.loop-place.place c.loop-place.place below ∙ zero-add _))
    (rw length-range_with_len below) refl
    c.loop-place.invariant c.in_ok-push_idle.ensures

pub returns : goal.returns
returns g c = adds_all _ _ _ _ _ (rw length-range_with_len c.loop-place-test.false) c.loop-place.invariant
