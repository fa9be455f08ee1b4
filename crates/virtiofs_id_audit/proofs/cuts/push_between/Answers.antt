use Rattle.std.proofs.Common.{inl, inr, arith}
use Rattle.virtiofs_id_audit.proofs.ApartLemmas.{RunsBelow-push}
use Rattle.virtiofs_id_audit.proofs.HeldLemmas.{hold_push, push_hold}
use Rattle.virtiofs_id_audit.proofs.cuts.push_between.Goals as goal

pub returns-clause-runs : goal.returns-clause-runs
returns-clause-runs g c = λ is next up under.
    rw c.in_ok-push.ensures.items
    (RunsBelow-push c.args.first next _ _ (omega arith) (omega arith) (omega arith) is)

pub returns-clause-hold : goal.returns-clause-hold
returns-clause-hold g c = λ id. rw c.in_ok-push.ensures.items (
  (λ held. elim (hold_push _ _ id held) [
    | inl old ↦ inl old
    | inr has ↦ inr (omega (arith, has))
  ]),
  (λ either. push_hold _ _ id (elim either [
    | inl old ↦ inl old
    | inr between ↦ inr (omega (arith, between))
  ])),
)
