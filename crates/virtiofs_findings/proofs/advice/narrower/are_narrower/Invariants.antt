-- that holds of those so far
use Rattle.std.proofs.Common.{take}
use Rattle.std.specs.List.{AllZip}
use Rattle.virtiofs_findings.specs.Narrower.{NarrowerSet}
use Rattle.virtiofs_findings.proofs.advice.narrower.are_narrower.Given as goal

abbrev pub invariant-loop-place : goal.invariant-loop-place
invariant-loop-place g l = AllZip NarrowerSet (take l.place l.given) (take l.place l.others)
