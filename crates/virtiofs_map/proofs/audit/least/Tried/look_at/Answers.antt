use Rattle.std.proofs.Common.{◌≡◌, Some, sym, ap, subst, ◌∙◌, refl}
use Rattle.std.proofs.lemmas.Bool.{false≢true}
use Rattle.virtiofs_map.specs.AuditParts.{IsBad, Tries}
use Rattle.virtiofs_map.proofs.audit.AuditLeastLemmas.{tries_late, tries_fine, tries_found}
use Rattle.virtiofs_map.proofs.audit.least.Tried.look_at.Goals as goal

pub returns-then-not-is_first : goal.returns-then-not-is_first
returns-then-not-is_first g c = record {
  tried = λ rules others asked.
      tries_late (IsBad c.args.question.now rules others) c.args.self.now c.args.name.bytes.now
      (sym c.is_first.ensures ∙ c.if-not-is_first.true);
  uncounted = refl;
}

pub returns-then-not-branch-clause-tried : goal.returns-then-not-branch-clause-tried
returns-then-not-branch-clause-tried g c = λ rules others asked.
    let bad = IsBad c.args.question.now rules others in
    let name = c.args.name.bytes.now in
    subst (λ t. Tries bad (λ one. one ≡ name) 0 c.args.self.now t) (sym c.self.view_is)
    (tries_fine bad c.args.self.now name
    (λ is. false≢true (sym c.if-not-branch.true ∙ (c.in_ok-is_bad.ensures rules others asked).1 is)))

pub returns-clause-tried : goal.returns-clause-tried
returns-clause-tried g c = λ rules others asked.
    tries_found (IsBad c.args.question.now rules others) c.args.self.now _ c.args.name.bytes.now
    (sym c.is_first.ensures ∙ c.if-not-is_first.false)
    ((c.in_ok-is_bad.ensures rules others asked).0 c.if-not-branch.false)
    (ap Some c.in_ok-copy_of.ensures.same) (ap (λ t. t.count) c.self.view_is)
