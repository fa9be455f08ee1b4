use Rattle.std.proofs.Common.{inl, refl, sym, ◌∙◌, arith}
use Rattle.virtiofs_map.proofs.xattrmap.AnsweredListLemmas.{or_zero-pushed, or_zero-kept, same_some, answer_size}
use Rattle.virtiofs_map.proofs.xattrmap.AnsweredListLemmas.{answered, unanswered}
use Rattle.virtiofs_map.proofs.xattrmap.ListingLemmas.{IsSoFar-first, IsSoFar-name}
use Rattle.virtiofs_map.proofs.MapRuleLemmas.{guests_apart}
use Rattle.virtiofs_map.proofs.xattrmap.XattrMap.map_server_xattrlist.Goals as goal
use Rattle.virtiofs_map.proofs.xattrmap.XattrMap.map_server_xattrlist.Goals.{then-is_empty+in_ok-push, else-is_empty}

pub names-init : goal.names-init
names-init g c =
    IsSoFar-first c.args.self.now c.args.names.items _ _ c.in_ok-listed.ensures.items (cc)

pub names-preserved : goal.names-preserved
names-preserved g c =
    let left = rw c.in-Ok.is at c.in-Some.ensures.steps in
    IsSoFar-name c.args.self.now c.args.names.items _ _ c.in-Ok.name.now _ _ c.names.invariant left
    c.in_ok-push_name.ensures.pushed

pub returns-clause-answer : goal.returns-clause-answer
returns-clause-answer g c =
    let old = c.names.listed in
    answered c.args.self.now c.args.names.items old.items _ _ c.names.invariant c.in-None.ensures.steps.0
    (elim c.if-is_empty.branch [
      | then-is_empty+in_ok-push w ↦ rw w.listed-is (or_zero-pushed old.items _ old.ok.0
          (sym c.is_empty.ensures ∙ w.if-is_empty.true) w.in_ok-push.ensures.items)
      | else-is_empty w ↦ rw w.listed-is (or_zero-kept old.items old.ok.0 w.if-is_empty.ensures)
    ])

pub returns-clause-size : goal.returns-clause-size
returns-clause-size g c =
    omega (arith, (answer_size c.args.self.now c.args.names.items _ (returns-clause-answer g c)).1)

pub returns-in_default : goal.returns-in_default
returns-in_default g c =
    let none = unanswered c.args.self.now c.args.names.items _ _ _ _ c.names.invariant
    (rw c.in_default.is at c.in-Some.ensures.steps) in
    record {
      answer = tt;
      complete = λ list e. absurd (let both = sym none ∙ e in cc);
      undecided = λ _. refl;
      unterminated = λ _. none;
      errors = inl c.from.ensures;
      not_empty = tt;
      size = tt;
      guests_apart = guests_apart c.args.self.now c.args.names.items;
    }

pub returns-clause-not_empty : goal.returns-clause-not_empty
returns-clause-not_empty g c =
    omega (arith, (answer_size c.args.self.now c.args.names.items _ (returns-clause-answer g c)).0)

pub returns-clause-complete : goal.returns-clause-complete
returns-clause-complete g c = λ list e. same_some _ _ list (returns-clause-answer g c) e
