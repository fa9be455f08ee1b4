-- the ranges so far lack 65534
use Rattle.std.proofs.Common.{◌≡◌, flat_map, take}
use Rattle.virtiofs_findings.specs.Ranges.{but_overflow}
use Rattle.virtiofs_findings.proofs.ids.namespace.acting_ranges.Given as goal

abbrev pub invariant-loop-range : goal.invariant-loop-range
invariant-loop-range g l = l.all.items ≡ flat_map but_overflow (take l.range-index l.range-items)
