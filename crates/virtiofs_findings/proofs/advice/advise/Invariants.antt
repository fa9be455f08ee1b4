-- each try so far came to nothing
use Rattle.std.proofs.Common.{All, take}
use Rattle.virtiofs_findings.specs.Advice.{IsPassedOver}
use Rattle.virtiofs_findings.proofs.advice.advise.Given as goal

abbrev pub invariant-loop-options : goal.invariant-loop-options
invariant-loop-options g l =
    All (IsPassedOver l.accepted l.given l.all.findings.items) (take l.options-index l.tries)
