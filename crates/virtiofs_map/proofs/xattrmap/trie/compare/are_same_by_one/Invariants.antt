use Rattle.std.proofs.Common.{◌≡◌, take}
use Rattle.virtiofs_map.proofs.xattrmap.trie.compare.are_same_by_one.Given as goal

-- the bytes so far are the same
abbrev pub invariant-loop-at : goal.invariant-loop-at
invariant-loop-at l = take l.at l.one ≡ take l.at l.other
