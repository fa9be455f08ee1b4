use Rattle.std.proofs.lemmas.Option.{slice_get-get_or}
use Rattle.std.proofs.Common.{ℕ, List, arith}
use Rattle.std.specs.Borrow.{Bor}
use Rattle.virtiofs_findings.specs.ExplainQuestion.{Asks}
use Rattle.virtiofs_findings.proofs.ListLemmas.{zip_at}
use Rattle.virtiofs_findings.proofs.explain.asking.read_questions.Goals as goal

pub returns-in-Err : goal.returns-in-Err
returns-in-Err c = (
  c.loop-place.place,
  (grind (arith, slice_get-get_or)),
)

pub loop-place-preserved : goal.loop-place-preserved
loop-place-preserved c =
    rw c.in_ok-push-in-Ok.ensures.items (zip_at (λ (it : Bor (List ℕ)). Asks it.now) c.args.texts.now
    c.loop-place.questions.items c.loop-place.place _ c.in-Ok.question c.loop-place-test.true c.loop-place.invariant
    c.in-Ok.ensures.read)
