use Rattle.std.proofs.Common.{inl, inr, arith}
use Rattle.std.proofs.lemmas.List.{take_all}
use Rattle.virtiofs_findings.specs.Advice.{IsPassedOver}
use Rattle.virtiofs_findings.proofs.AdviceLemmas.{rests_of}
use Rattle.virtiofs_findings.proofs.ListLemmas.{all_at}
use Rattle.virtiofs_findings.proofs.advice.advise.Goals as goal

pub try_others-requires-clause-rest : goal.try_others-requires-clause-rest
try_others-requires-clause-rest g c = rests_of c.args.given.now _ _ c.in_ok-guests.ensures

pub loop-options-preserved-then-options-given : goal.loop-options-preserved-then-options-given
loop-options-preserved-then-options-given g c =
    all_at (IsPassedOver c.args.accepted.now c.args.given.now c.args.all.now.findings.items) c.args.tries.now
    c.loop-options.options-index c.options-item.result c.options-item.is c.loop-options-test.true c.loop-options.invariant
    (inl (rw c.as_slice-options.ensures.value at c.if-options-given.true))

pub loop-options-preserved : goal.loop-options-preserved
loop-options-preserved g c =
    all_at (IsPassedOver c.args.accepted.now c.args.given.now c.args.all.now.findings.items) c.args.tries.now
    c.loop-options.options-index c.options-item.result c.options-item.is c.loop-options-test.true c.loop-options.invariant
    (inr (record {
      guests = c.in_ok-guests.guests.items;
      is_with = rw c.as_slice-options.ensures.value at c.in_ok-guests.ensures;
      why = grind arith;
    }))

pub returns-clause-none : goal.returns-clause-none
returns-clause-none g c = λ none. rw (take_all _ _ c.loop-options-test.false) at c.loop-options.invariant
