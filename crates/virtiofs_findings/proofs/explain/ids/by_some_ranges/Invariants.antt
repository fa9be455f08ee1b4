-- none of the ranges so far moves the id
use Rattle.std.proofs.Common.{take}
use Rattle.virtiofs_findings.specs.ExplainIds.{MovesNone}
use Rattle.virtiofs_findings.proofs.explain.ids.by_some_ranges.Given as goal

abbrev pub invariant-loop-place : goal.invariant-loop-place
invariant-loop-place l = MovesNone (take l.place l.ranges) l.way l.id
