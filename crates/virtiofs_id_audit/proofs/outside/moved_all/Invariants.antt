-- what the ids of the spans so far are
use Rattle.std.proofs.Common.{take}
use Rattle.virtiofs_id_audit.specs.Outside.{AreMoved}
use Rattle.virtiofs_id_audit.proofs.outside.moved_all.Given as goal

abbrev pub invariant-loop-span : goal.invariant-loop-span
invariant-loop-span g l = AreMoved l.way l.ranges (take l.span-index l.spans) l.all.items
