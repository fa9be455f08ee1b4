use Rattle.std.proofs.Common.{take}
use Rattle.virtiofs_map_c.specs.Arrays.{AreSaid}
use Rattle.virtiofs_map_c.proofs.arrays.read_all.Given as goal

-- the specifications so far are those of the list
abbrev pub invariant-loop-place : goal.invariant-loop-place
invariant-loop-place l = AreSaid (take l.place l.specs) l.list.items
