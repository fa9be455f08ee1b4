use Rattle.std.proofs.Common.{◌≤◌, ◌-◌}
use Rattle.virtiofs_map.proofs.xattrmap.trie.build.ChildrenLemmas.{AreFound}
use Rattle.virtiofs_map.proofs.xattrmap.trie.build.add_children.Given as goal

-- the children so far
abbrev pub invariant-loop-low : goal.invariant-loop-low
invariant-loop-low g l = record {
  from : l.from ≤ l.low;
  upto : l.low ≤ l.range.high;
  found : AreFound l.patterns l.range l.from l.lowest l.is_sparse l.low l.initial.ranges.items l.ranges.items;
}

-- what is left
abbrev pub decreases-loop-low : goal.decreases-loop-low
decreases-loop-low g l = l.range.high - l.low
