-- the spans so far that have an id
use Rattle.std.proofs.Common.{take}
use Rattle.virtiofs_id_audit.proofs.images.AgainLemmas.{AreKept}
use Rattle.virtiofs_id_audit.proofs.images.in_order.Given as goal

abbrev pub invariant-loop-span : goal.invariant-loop-span
invariant-loop-span g l = AreKept (take l.span-index l.spans) l.sorted.items
