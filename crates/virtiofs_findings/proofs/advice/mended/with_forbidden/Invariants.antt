-- what is made so far takes away
use Rattle.virtiofs_findings.specs.Narrower.{NarrowerIds}
use Rattle.virtiofs_findings.proofs.advice.mended.with_forbidden.Given as goal

abbrev pub invariant-loop-span : goal.invariant-loop-span
invariant-loop-span g l = NarrowerIds l.specs l.more.items
