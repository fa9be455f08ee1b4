-- the parts of the `-o` so far were added
use Rattle.std.proofs.Common.{take}
use Rattle.virtiofs_options.specs.GuestOptions.{AreOlder}
use Rattle.virtiofs_options.proofs.older.older_parts.Given as goal

abbrev pub invariant-loop-part : goal.invariant-loop-part
invariant-loop-part g l = AreOlder l.options (take l.part-index l.parts) l.older.items
