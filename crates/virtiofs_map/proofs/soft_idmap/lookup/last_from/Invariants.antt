use Rattle.std.proofs.Common.{◌+◌, ◌-◌, ◌≤◌}
use Rattle.virtiofs_map.specs.LookupSteps.{binary_digits}
use Rattle.virtiofs_map.specs.RangeParts.{HasDigitsFor, HasBegun}
use Rattle.virtiofs_map.specs.WordParts.{Searches}
use Rattle.virtiofs_map.proofs.soft_idmap.lookup.last_from.Given as goal

-- size ranges are left, of which the last one is the first
abbrev pub invariant-loop-size : goal.invariant-loop-size
invariant-loop-size l = record {
  some : 1 ≤ l.size;
  within : l.last.index + l.size ≤ l.ranges.count;
  digits : HasDigitsFor (l.size - 1) l.taken (binary_digits l.ranges.count);
  begun : HasBegun l.taken l.size;
  searched : Searches l.ranges l.n l.last.index (l.last.index + l.size);
}

-- what is left
abbrev pub decreases-loop-size : goal.decreases-loop-size
decreases-loop-size l = l.size
