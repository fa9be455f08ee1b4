-- each of the texts so far asks the question at its place
use Rattle.std.proofs.Common.{take}
use Rattle.std.specs.List.{AllZip}
use Rattle.virtiofs_findings.specs.ExplainQuestion.{Asks}
use Rattle.virtiofs_findings.proofs.explain.asking.read_questions.Given as goal

abbrev pub invariant-loop-place : goal.invariant-loop-place
invariant-loop-place l = AllZip (λ text. Asks text.now) (take l.place l.texts) l.questions.items
