use Rattle.virtiofs_map.specs.AddedParts.{IsAddedBelow}
use Rattle.virtiofs_map.proofs.xattrmap.XattrMap.most_added.Given as goal

-- it is the most for the rules so far
abbrev pub invariant-loop-place : goal.invariant-loop-place
invariant-loop-place g l = IsAddedBelow l.self l.place l.most
