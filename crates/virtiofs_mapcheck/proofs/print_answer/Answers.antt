use Rattle.std.proofs.Common.{rules, inr}
use Rattle.std.proofs.KnownBytes.{Appends-kept}
use Rattle.std.proofs.lemmas.Result.{err_from_is_err_and}
use Rattle.virtiofs_mapcheck.proofs.print_answer.Goals as goal

pub returns-in_err-answered-clause-write : goal.returns-in_err-answered-clause-write
returns-in_err-answered-clause-write g c = search (rules, err_from_is_err_and)

pub returns-in_err-flush-clause-write : goal.returns-in_err-flush-clause-write
returns-in_err-flush-clause-write g c = λ is.
    let (text, answers, writes) = c.in_ok-answered.ensures.answered in
    (c.in_ok-answered.answered, text, answers, inr (Appends-kept _ _ _ _ writes.whole c.in_err-flush.ensures.kept))
