-- the questions so far have their explanations
use Rattle.std.proofs.Common.{take}
use Rattle.std.specs.List.{AllZip}
use Rattle.virtiofs_findings.specs.Explain.{Explains}
use Rattle.virtiofs_findings.proofs.explain.explain_each.Given as goal

abbrev pub invariant-loop-place : goal.invariant-loop-place
invariant-loop-place l = AllZip (Explains l.guest l.set) (take l.place l.questions) l.all.items
