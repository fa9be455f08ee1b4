-- the guests so far have the options at their places
use Rattle.std.proofs.Common.{take}
use Rattle.virtiofs_findings.specs.Tries.{AreWith}
use Rattle.virtiofs_findings.proofs.advice.options.guests_of.Given as goal

abbrev pub invariant-loop-place : goal.invariant-loop-place
invariant-loop-place g l = AreWith (take l.place l.given) (take l.place l.others) l.guests.items
