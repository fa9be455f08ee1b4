use Rattle.std.proofs.Common.{◌≤◌, arith, refl, rules}
use Rattle.std.proofs.lemmas.Bool.{cases_lt}
use Rattle.virtiofs_id_audit.specs.Namespace.{HasSome}
use Rattle.virtiofs_id_audit.proofs.NamespaceLemmas.{lacks_all}
use Rattle.virtiofs_id_audit.proofs.SpanLemmas.{HoldBelow-pass, HoldBelow-push}
use Rattle.virtiofs_id_audit.proofs.namespace.ids_of_none.Goals.{then-run+in_ok-push, else-run}
use Rattle.virtiofs_id_audit.proofs.namespace.ids_of_none.Goals as goal

pub loop-first-preserved : goal.loop-first-preserved
loop-first-preserved g c =
    let is = c.run_of_none-run.ensures in (
      omega (arith, is.to),
      elim c.if-run.branch [
        | then-run+in_ok-push w ↦
            rw (w.ids-is, w.in_ok-push.ensures.items, c.from-next.ensures)
            (HoldBelow-push (λ n. ¬ HasSome c.args.ranges.now n) _ _ _ is _ _ w.if-run.true refl refl
            (rw c.in-Ok.ensures.1 c.loop-first.invariant.1))
        | else-run w ↦
            rw (w.ids-is, c.from-next.ensures)
            (HoldBelow-pass (λ n. ¬ HasSome c.args.ranges.now n) _ _ _ is _ w.if-run.false
            (rw c.in-Ok.ensures.1 c.loop-first.invariant.1))
      ],
    )

pub returns : goal.returns
returns g c =
    let passed : 4294967296 ≤ c.loop-first.next = search (rules, cases_lt) in
    lacks_all c.args.ranges.now c.loop-first.next _ c.loop-first.invariant.0 (omega (arith, passed))
    c.loop-first.invariant.1
