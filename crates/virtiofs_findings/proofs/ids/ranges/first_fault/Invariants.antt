-- no range so far is at fault, and the lines of these are written
use Rattle.std.proofs.Common.{◌≡◌, ℕ, ◌<◌, take, option_map, string_bytes}
use Rattle.virtiofs_findings.specs.Ranges.{HasFaultAt, lines_of}
use Rattle.virtiofs_findings.specs.declared.ids.ranges.RangeFault.{RangeFault}
use Rattle.virtiofs_findings.proofs.ids.ranges.first_fault.Given as goal

abbrev pub invariant-loop-place : goal.invariant-loop-place
invariant-loop-place g l =
    ((k : ℕ) (fault : RangeFault) → k < l.place → ¬ HasFaultAt (option_map (λ it. it.now) l.bounds) l.ranges k fault)
    × (string_bytes l.lines ≡ lines_of (take l.place l.ranges))
