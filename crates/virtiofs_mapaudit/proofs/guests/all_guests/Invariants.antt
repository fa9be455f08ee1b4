-- the guests of command lines, and those of the processes so far
use Rattle.std.proofs.Common.{◌≡◌, [], take}
use Rattle.virtiofs_mapaudit.specs.Everyone.{AddsProcesses, AreStarted}
use Rattle.virtiofs_mapaudit.specs.declared.guests.Everyone.{Everyone}
use Rattle.virtiofs_mapaudit.proofs.guests.all_guests.Given as goal

abbrev pub invariant-loop-process : goal.invariant-loop-process
invariant-loop-process l =
    (before : Everyone) × AreStarted l.starters 0 l.fn.given.guests.items before.guests.items
    × (before.unknown.items ≡ l.fn.given.unknown.items)
    × (before.faults.items ≡ [])
    × AddsProcesses l.of_daemon (take l.process-index l.processes) before l.all
