-- so are the guests so far
use Rattle.virtiofs_mapaudit.specs.Everyone.{AreStarted}
use Rattle.virtiofs_mapaudit.proofs.guests.started.Given as goal

abbrev pub invariant-loop-options : goal.invariant-loop-options
invariant-loop-options l = AreStarted l.starters 0 l.yielded l.guests.items
