-- none of the specifications so far covers the id
use Rattle.std.proofs.Common.{take}
use Rattle.virtiofs_findings.specs.IdFindings.{CoversNone}
use Rattle.virtiofs_findings.proofs.explain.ids.covering.Given as goal

abbrev pub invariant-loop-place : goal.invariant-loop-place
invariant-loop-place l = CoversNone (take l.place l.specs) l.direction l.id
