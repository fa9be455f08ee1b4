-- by no range so far the id is one outside that the guest reaches
use Rattle.std.proofs.Common.{take}
use Rattle.virtiofs_findings.proofs.MeetingLemmas.{MeetsNone}
use Rattle.virtiofs_findings.proofs.ids.meeting.met_of.Given as goal

abbrev pub invariant-loop-range : goal.invariant-loop-range
invariant-loop-range g l = MeetsNone (take l.range-index l.ranges) l.other.map l.other.ranges.items l.inside
