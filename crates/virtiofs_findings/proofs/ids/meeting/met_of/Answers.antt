use Rattle.std.proofs.lemmas.List.Elements.{Contains-get_or}
use Rattle.std.proofs.Common.{arith, rules}
use Rattle.virtiofs_id_audit.proofs.ForCallers.{some_here}
use Rattle.virtiofs_findings.proofs.MeetingLemmas.{none_met, none_met_more, none_met_all}
use Rattle.virtiofs_findings.proofs.ids.meeting.met_of.Goals as goal

pub returns-then-is_empty : goal.returns-then-is_empty
returns-then-is_empty g c = grind arith

pub loop-range-init : goal.loop-range-init
loop-range-init g c = none_met c.args.ranges.now c.args.other.now.map c.args.other.now.ranges.items c.args.inside

pub returns-in-Some : goal.returns-in-Some
returns-in-Some g c =
    let met = rw c.in-Some.is at c.in_ok-met.ensures in (
      (search (rules, Contains-get_or, (some_here c.args.ranges.now c.is_empty.result c.is_empty.ensures c.if-is_empty.false), c.loop-range-test.true, met.0)),
      met.1,
    )

pub loop-range-preserved : goal.loop-range-preserved
loop-range-preserved g c =
    none_met_more _ _ _ _ _ _ c.loop-range-test.true c.loop-range.invariant (rw c.in_default.is at c.in_ok-met.ensures)

pub returns : goal.returns
returns g c =
    none_met_all _ _ _ _ _
    (some_here c.args.ranges.now c.is_empty.result c.is_empty.ensures c.if-is_empty.false) c.loop-range-test.false
    c.loop-range.invariant
