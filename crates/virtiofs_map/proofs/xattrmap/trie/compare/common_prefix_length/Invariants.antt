use Rattle.std.proofs.Common.{◌≡◌, ◌+◌, ◌≤◌, ◌-◌, drop}
use Rattle.virtiofs_map.specs.FirstRule.{shared}
use Rattle.virtiofs_map.proofs.xattrmap.trie.compare.common_prefix_length.Given as goal

-- so many bytes are the same, and what is shared of the rests comes behind them
abbrev pub invariant-loop-count : goal.invariant-loop-count
invariant-loop-count l = record {
  within : l.count ≤ l.most;
  so_far : l.count + shared (drop l.count l.one) (drop l.count l.other) ≡ shared l.one l.other;
}

-- what is left
abbrev pub decreases-loop-count : goal.decreases-loop-count
decreases-loop-count l = l.most - l.count
