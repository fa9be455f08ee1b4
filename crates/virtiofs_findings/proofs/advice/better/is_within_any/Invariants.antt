-- none of the others so far is like it
use Rattle.std.proofs.Common.{All, take}
use Rattle.virtiofs_findings.specs.Advice.{IsWithin}
use Rattle.virtiofs_findings.proofs.advice.better.is_within_any.Given as goal

abbrev pub invariant-loop-other : goal.invariant-loop-other
invariant-loop-other g l = All (λ it. ¬ IsWithin l.finding it) (take l.other-index l.others)
