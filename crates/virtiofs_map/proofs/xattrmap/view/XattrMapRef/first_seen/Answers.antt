use Rattle.std.proofs.Common.{◌≡◌, List, ℕ, true, false, not, inl, inr, refl, sym, ap, subst, ◌∙◌, rules as steps}
use Rattle.virtiofs_map.specs.NamesImage.{Says}
use Rattle.virtiofs_map.specs.declared.xattrmap.scopes.Side.TheVariants.{Server}
use Rattle.virtiofs_map.proofs.ServerListLemmas.{is_name, IsCut, names_step_name, names_step_none}
use Rattle.virtiofs_map.proofs.xattrmap.view.XattrMapRef.first_seen.Goals as goal

pub returns-then-is_empty-clause-first : goal.returns-then-is_empty-clause-first
returns-then-is_empty-clause-first c = λ rules is.
    let name = c.cut_name.result.0.now in
    let clear = c.decide-passed.ensures.no_zero rules is in
    let cut : IsCut c.args.list.now name c.cut_name.result.1.now =
    record { before = c.cut_name.ensures.name clear; after = c.cut_name.ensures.rest clear } in
    let none : is_name name ≡ false = ap not (sym c.is_empty.ensures ∙ c.if-is_empty.true) in
    inl (names_step_none c.args.list.now name c.cut_name.result.1.now cut none, refl)

pub returns-clause-first : goal.returns-clause-first
returns-clause-first c = λ rules is.
    let name = c.cut_name.result.0.now in
    let clear = c.decide-passed.ensures.no_zero rules is in
    let cut : IsCut c.args.list.now name c.cut_name.result.1.now =
    record { before = c.cut_name.ensures.name clear; after = c.cut_name.ensures.rest clear } in
    let named : is_name name ≡ true = search steps in
    let says : Says Server rules name c.decide-passed.result.0 =
    subst (λ (n : List ℕ). Says Server rules n c.decide-passed.result.0) (sym cut.before)
    (c.decide-passed.ensures.before_zero rules is) in
    inr (name, names_step_name c.args.list.now name c.cut_name.result.1.now cut named, c.seen_as.ensures.seen rules says)
