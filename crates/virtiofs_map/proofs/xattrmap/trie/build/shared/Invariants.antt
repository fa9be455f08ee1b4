use Rattle.std.proofs.Common.{◌≡◌, ◌≤◌, ◌-◌, ◌+◌, take}
use Rattle.virtiofs_map.proofs.xattrmap.trie.build.shared.Given as goal

-- the bytes so far are the same
abbrev pub invariant-loop-count : goal.invariant-loop-count
invariant-loop-count l = record {
  within : l.count ≤ l.most;
  same : take l.depth l.one ≡ take l.depth l.other → take (l.depth + l.count) l.one ≡ take (l.depth + l.count) l.other;
}

-- what is left
abbrev pub decreases-loop-count : goal.decreases-loop-count
decreases-loop-count l = l.most - l.count
