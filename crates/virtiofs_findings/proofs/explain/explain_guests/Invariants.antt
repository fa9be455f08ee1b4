-- the guests so far have their explanations
use Rattle.std.proofs.Common.{take}
use Rattle.virtiofs_findings.specs.Explain.{ExplainsGuests}
use Rattle.virtiofs_findings.proofs.explain.explain_guests.Given as goal

abbrev pub invariant-loop-place : goal.invariant-loop-place
invariant-loop-place l = ExplainsGuests l.questions (take l.place l.guests) (take l.place l.sets) l.all.items
