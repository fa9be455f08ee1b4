-- what the ranges so far move of the span was added
use Rattle.std.proofs.Common.{take}
use Rattle.virtiofs_id_audit.specs.OutsideParts.{AddsMoved}
use Rattle.virtiofs_id_audit.proofs.outside.push_moved.Given as goal

abbrev pub invariant-loop-range : goal.invariant-loop-range
invariant-loop-range g l = AddsMoved l.initial.spans.items l.way (take l.range-index l.ranges) l.span l.spans.items
