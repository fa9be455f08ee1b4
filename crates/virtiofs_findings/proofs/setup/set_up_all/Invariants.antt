-- the options of the guests so far were read
use Rattle.std.proofs.Common.{take}
use Rattle.std.specs.List.{AllZip}
use Rattle.virtiofs_findings.specs.Guests.{SetsUp}
use Rattle.virtiofs_findings.specs.Lists.{Adds}
use Rattle.virtiofs_findings.specs.Refusals.{TellsGuests}
use Rattle.virtiofs_findings.proofs.setup.set_up_all.Given as goal

abbrev pub invariant-loop-place : goal.invariant-loop-place
invariant-loop-place g l =
    AllZip SetsUp (take l.place l.guests) l.sets.items
    × Adds (TellsGuests 1 (take l.place l.guests)) l.initial.refusals.items l.refusals.items
