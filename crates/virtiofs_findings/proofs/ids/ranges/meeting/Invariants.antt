-- the range meets none of those so far
use Rattle.std.proofs.Common.{ℕ, ◌<◌}
use Rattle.virtiofs_findings.specs.Ranges.{MeetsOneAt, MeetInside, MeetOutside}
use Rattle.virtiofs_findings.proofs.ids.ranges.meeting.Given as goal

abbrev pub invariant-loop-place : goal.invariant-loop-place
invariant-loop-place l =
    (k : ℕ) → k < l.place
    → (¬ MeetsOneAt l.before k (MeetInside l.range)) × (¬ MeetsOneAt l.before k (MeetOutside l.range))
