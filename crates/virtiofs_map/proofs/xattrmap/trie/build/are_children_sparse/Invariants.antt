use Rattle.std.proofs.Common.{◌≤◌, ◌-◌}
use Rattle.virtiofs_map.proofs.xattrmap.trie.build.FirstBytesLemmas.{HaveFirstBytes}
use Rattle.virtiofs_map.proofs.xattrmap.trie.build.are_children_sparse.Given as goal

-- the groups so far
abbrev pub invariant-loop-low : goal.invariant-loop-low
invariant-loop-low l = record {
  from : l.from ≤ l.low;
  upto : l.low ≤ l.range.high;
  groups : HaveFirstBytes l.patterns l.range l.from l.lowest l.low l.count;
}

-- what is left
abbrev pub decreases-loop-low : goal.decreases-loop-low
decreases-loop-low l = l.range.high - l.low
