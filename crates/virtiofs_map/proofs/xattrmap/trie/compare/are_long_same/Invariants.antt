use Rattle.std.proofs.Common.{◌≡◌, ◌≤◌, ◌-◌, length, take}
use Rattle.virtiofs_map.proofs.xattrmap.trie.compare.are_long_same.Given as goal

-- the bytes so far are the same
abbrev pub invariant-loop-at : goal.invariant-loop-at
invariant-loop-at l = record {
  within : l.at ≤ length l.one;
  same : take l.at l.one ≡ take l.at l.other;
}

-- what is left
abbrev pub decreases-loop-at : goal.decreases-loop-at
decreases-loop-at l = length l.one - l.at
