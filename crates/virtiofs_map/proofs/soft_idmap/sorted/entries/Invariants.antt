use Rattle.std.proofs.Common.{◌≡◌, take}
use Rattle.virtiofs_map.specs.RangeParts.{entries}
use Rattle.virtiofs_map.proofs.soft_idmap.sorted.entries.Given as goal

-- the entries of the specifications so far
abbrev pub invariant-loop-spec : goal.invariant-loop-spec
invariant-loop-spec g l = l.all.items ≡ entries (take l.spec-index l.specs) l.direction
