use Rattle.std.proofs.Common.{◌-◌, ◌<◌, ◌≤◌, length, take}
use Rattle.virtiofs_map.specs.Build.{Accepted}
use Rattle.virtiofs_map.proofs.soft_idmap.build.longest_accepted.Given as goal

-- the front up to low is accepted, and that up to high is not
abbrev pub invariant-loop-high : goal.invariant-loop-high
invariant-loop-high g l = record {
  order : l.low < l.high;
  within : l.high ≤ length l.specs;
  accepted : Accepted (take l.low l.specs);
  refused : ¬ Accepted (take l.high l.specs);
}

-- what is left
abbrev pub decreases-loop-high : goal.decreases-loop-high
decreases-loop-high g l = l.high - l.low
