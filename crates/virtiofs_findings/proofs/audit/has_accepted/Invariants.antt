-- nothing so far is found of a kind that is accepted
use Rattle.std.proofs.Common.{All, take}
use Rattle.virtiofs_findings.specs.Findings.{IsOfKind}
use Rattle.virtiofs_findings.proofs.audit.has_accepted.Given as goal

abbrev pub invariant-loop-finding : goal.invariant-loop-finding
invariant-loop-finding g l = All (λ it. ¬ IsOfKind l.accepted it) (take l.finding-index l.found)
