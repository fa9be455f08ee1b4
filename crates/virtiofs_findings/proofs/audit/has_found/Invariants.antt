-- nothing so far is found that is not accepted
use Rattle.std.proofs.Common.{All, take}
use Rattle.virtiofs_findings.specs.Findings.{IsOfOther}
use Rattle.virtiofs_findings.proofs.audit.has_found.Given as goal

abbrev pub invariant-loop-finding : goal.invariant-loop-finding
invariant-loop-finding g l = All (λ it. ¬ IsOfOther l.accepted it) (take l.finding-index l.found)
