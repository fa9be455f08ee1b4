-- nothing so far is new
use Rattle.std.proofs.Common.{All, take}
use Rattle.virtiofs_findings.specs.Advice.{IsNew}
use Rattle.virtiofs_findings.proofs.advice.better.has_new.Given as goal

abbrev pub invariant-loop-finding : goal.invariant-loop-finding
invariant-loop-finding g l = All (λ it. ¬ IsNew l.accepted l.others it) (take l.finding-index l.found)
