use Rattle.virtiofs_findings.proofs.MeetingLemmas.{meets_spans}
use Rattle.virtiofs_findings.proofs.ids.meeting.met_inside.Goals as goal

pub returns : goal.returns
returns g c =
    meets_spans c.args.other.now.map c.args.ranges.now c.args.other.now.ranges.items c.in_ok-theirs.theirs.items
    c.in_ok-outside.outside.items c.in_ok-ids.ids.items c.in_ok-met.met.items c.in_ok-theirs.ensures
    (rw (c.as_slice.ensures.value, c.as_slice-2.ensures.value) at c.in_ok-outside.ensures)
    (rw c.as_slice-3.ensures.value at c.in_ok-ids.ensures) (rw c.as_slice-4.ensures.value at c.in_ok-met.ensures)
