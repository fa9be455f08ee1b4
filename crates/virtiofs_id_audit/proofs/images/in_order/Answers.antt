use Rattle.std.proofs.Common.{rules}
use Rattle.std.proofs.lemmas.List.{take_all}
use Rattle.std.proofs.lemmas.List.Sorted.{All-permutation, IsNonDecreasingBy-from_sort_by_key, sum_by-IsPermutation}
use Rattle.virtiofs_id_audit.specs.IdAuditParts.{IsSpan, has_times}
use Rattle.virtiofs_id_audit.specs.declared.spans.Span.{Span}
use Rattle.virtiofs_id_audit.proofs.images.AgainLemmas.{kept_without, kept_with}
use Rattle.virtiofs_id_audit.proofs.images.in_order.Goals as goal

pub loop-span-preserved-then-span : goal.loop-span-preserved-then-span
loop-span-preserved-then-span g c =
    kept_without c.args.spans.now _ c.loop-span.span-index _ c.loop-span-test.true c.loop-span.invariant c.if-span.true

pub loop-span-preserved : goal.loop-span-preserved
loop-span-preserved g c =
    rw c.in_ok-push.ensures.items
    (kept_with _ _ _ _ c.loop-span-test.true c.loop-span.invariant (c.if-span.false, search rules))

pub returns-clause-spans : goal.returns-clause-spans
returns-clause-spans g c =
    All-permutation IsSpan c.loop-span.sorted.items _ c.sort_unstable_by_key.ensures.permutation
    c.loop-span.invariant.some

pub returns-clause-firsts : goal.returns-clause-firsts
returns-clause-firsts g c =
    IsNonDecreasingBy-from_sort_by_key (λ (span : Span). span.first) _ c.sort_unstable_by_key.ensures.sorted
    (λ a r q k. search rules)

pub returns-clause-times : goal.returns-clause-times
returns-clause-times g c = λ id.
    rw (← take_all c.loop-span.span-index c.args.spans.now c.loop-span-test.false, ← c.loop-span.invariant.same id)
    (sum_by-IsPermutation (has_times id) c.loop-span.sorted.items _ c.sort_unstable_by_key.ensures.permutation)
