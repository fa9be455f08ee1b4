use Rattle.virtiofs_mapaudit.proofs.answer.answer_with.Goals as goal

pub returns : goal.returns
returns c = record {
  all = c.args.all;
  advised = c.in_ok-advised.advised;
  audits = c.requires;
  advice = c.in_ok-advised.ensures.advice;
  none_advised = c.in_ok-advised.ensures.untried;
  ends = rw (c.as_slice.ensures.value, c.counting-found.ensures) at c.outcome_of-outcome.ensures;
  quiet = c.in_ok-text.ensures;
  told = rw c.as_slice-2.ensures.value at c.in_ok-refusals.ensures;
}
