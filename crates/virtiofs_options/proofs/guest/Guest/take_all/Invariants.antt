-- the parts so far were taken in
use Rattle.std.proofs.Common.{take}
use Rattle.virtiofs_options.specs.GuestOptions.{Adds}
use Rattle.virtiofs_options.proofs.guest.Guest.take_all.Given as goal

abbrev pub invariant-loop-part : goal.invariant-loop-part
invariant-loop-part g l = Adds l.initial.self l.self (take l.part-index l.parts)
