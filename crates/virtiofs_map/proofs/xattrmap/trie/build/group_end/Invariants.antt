use Rattle.std.proofs.Common.{◌≡◌, ◌≢◌, ◌+◌, ◌-◌, ◌≤◌, ◌<◌, get_or}
use Rattle.virtiofs_map.specs.TrieBuildParts.{text}
use Rattle.virtiofs_map.proofs.xattrmap.trie.build.group_end.Given as goal

-- the last pattern known has the byte, and the step is as far as it was gone, and one more
abbrev pub invariant-loop-step : goal.invariant-loop-step
invariant-loop-step l = record {
  from : l.low ≤ l.last;
  below : l.last < l.high;
  byte : get_or (text l.patterns l.last) l.depth 0 ≡ l.byte;
  step : l.step + l.low ≡ l.last + 1;
}

-- what is left
abbrev pub decreases-loop-step : goal.decreases-loop-step
decreases-loop-step l = l.high - l.last

-- the pattern at the end has another byte
abbrev pub invariant-loop-end : goal.invariant-loop-end
invariant-loop-end l = record {
  from : l.low ≤ l.last;
  below : l.last < l.end;
  upto : l.end ≤ l.high;
  byte : get_or (text l.patterns l.last) l.depth 0 ≡ l.byte;
  other : l.end < l.high → get_or (text l.patterns l.end) l.depth 0 ≢ l.byte;
}

-- what is between
abbrev pub decreases-loop-end : goal.decreases-loop-end
decreases-loop-end l = l.end - l.last
