use Rattle.std.proofs.Common.{take}
use Rattle.virtiofs_map.specs.Specifications.{texts_of, AllSay}
use Rattle.virtiofs_map.proofs.soft_idmap.texts.read_all.Given as goal

-- the texts so far say the specifications
abbrev pub invariant-loop-index : goal.invariant-loop-index
invariant-loop-index g l = AllSay (take l.index (texts_of l.texts)) l.specs.items
