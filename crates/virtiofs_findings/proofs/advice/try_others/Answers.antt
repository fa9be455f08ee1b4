use Rattle.std.proofs.Common.{◌∙◌, refl, sym, arith}
use Rattle.std.proofs.lemmas.Bool.{true≢false}
use Rattle.virtiofs_findings.proofs.AdviceLemmas.{is_audited, all_refused}
use Rattle.virtiofs_findings.proofs.ListLemmas.{is_empty_here, decides_not}
use Rattle.virtiofs_findings.proofs.NarrowerLemmas.{are_narrower}
use Rattle.virtiofs_findings.proofs.advice.try_others.Goals as goal

pub returns-then-not-is_empty : goal.returns-then-not-is_empty
returns-then-not-is_empty g c = grind (arith, all_refused)

pub returns-then-not-branch : goal.returns-then-not-branch
returns-then-not-branch g c = record {
  sets = c.args.all.now.sets.items;
  other_sets = c.in_ok-sets.sets.items;
  sets_up = c.requires.audits.sets_up;
  other_sets_up = rw c.as_slice.ensures.value at c.in_ok-sets.ensures.sets_up;
  other = λ same. true≢false (sym (c.in_ok-are_narrower.ensures.same
      (rw (sym c.as_slice-3.ensures.value, sym c.as_slice-4.ensures.value) at same)) ∙ c.if-not-branch.true);
}

pub returns-then-not-finds_less : goal.returns-then-not-finds_less
returns-then-not-finds_less g c = record {
  after = c.in_ok-findings.findings.items;
  audited = is_audited _ _ _ _ _ (rw c.as_slice.ensures.value at c.in_ok-sets.ensures.sets_up)
      (rw c.as_slice.ensures.value at c.in_ok-sets.ensures.says) c.new-refusals.ensures.items
      (is_empty_here _ _ (rw c.as_slice-2.ensures.value at c.if-not-is_empty.ensures) refl)
      (rw c.as_slice-5.ensures.value at c.in_ok-findings.ensures);
  no_less = rw (c.as_slice-6.ensures.value, c.as_slice-7.ensures.value) at
      (decides_not _ c.finds_less.ensures c.if-not-finds_less.true);
}

pub returns : goal.returns
returns g c = (
  record {
    narrower = are_narrower _ _ _ _
        c.requires.audits.sets_up (rw c.as_slice.ensures.value at c.in_ok-sets.ensures.sets_up) c.requires.rest
        (rw (c.as_slice-3.ensures.value, c.as_slice-4.ensures.value) at
        (c.in_ok-are_narrower.ensures.narrower c.if-not-branch.false));
    sets_up = rw c.as_slice.ensures.value at c.in_ok-sets.ensures.sets_up;
    audited = is_audited _ _ _ _ _ (rw c.as_slice.ensures.value at c.in_ok-sets.ensures.sets_up)
        (rw c.as_slice.ensures.value at c.in_ok-sets.ensures.says) c.new-refusals.ensures.items
        (is_empty_here _ _ (rw c.as_slice-2.ensures.value at c.if-not-is_empty.ensures) refl)
        (rw c.as_slice-5.ensures.value at c.in_ok-findings.ensures);
    less = rw (c.as_slice-6.ensures.value, c.as_slice-7.ensures.value) at
        (c.finds_less.ensures.0 c.if-not-finds_less.false);
  },
  refl,
)
