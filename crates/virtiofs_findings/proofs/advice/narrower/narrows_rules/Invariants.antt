-- the other rules so far decide what the given ones so far decide, and are those of the given ones where all are
use Rattle.std.proofs.Common.{◌≡◌}
use Rattle.virtiofs_findings.proofs.NarrowerLemmas.{AgreeSoFar}
use Rattle.virtiofs_findings.proofs.advice.narrower.narrows_rules.Given as goal

abbrev pub invariant-loop-place : goal.invariant-loop-place
invariant-loop-place g l = AgreeSoFar l.given l.place l.other l.at × ((l.other ≡ l.given) → l.at ≡ l.place)
