use Rattle.virtiofs_mapaudit.proofs.explained.answer_questions.Goals as goal

pub returns : goal.returns
returns c = record {
  all = c.in_ok-all.all;
  explains = c.in_ok-all.ensures;
  ends = rw c.as_slice.ensures.value at c.outcome_of-outcome.ensures;
  told = rw c.as_slice-2.ensures.value at c.in_ok-refusals.ensures;
}
