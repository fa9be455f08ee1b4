use Rattle.std.proofs.Common.{inl, inr, sym, ◌∙◌}
use Rattle.std.proofs.lemmas.Bool.{true≢false, false_from_ne_true}
use Rattle.virtiofs_map.specs.declared.xattrmap.scopes.Side.TheVariants.{Client, Server}
use Rattle.virtiofs_map.proofs.xattrmap.DecidingLemmas.{on_a_side, shadowed_on_both, shadowed_decides_none}
use Rattle.virtiofs_map.proofs.xattrmap.XattrMap.decides.Goals as goal

pub returns-then-decides_on-clause-patterns : goal.returns-then-decides_on-clause-patterns
returns-then-decides_on-clause-patterns g c =
    let holds = c.if-decides_on.true in (
      λ e. absurd (true≢false (sym holds ∙ e)),
      λ shadowed. absurd (shadowed_decides_none c.args.self.now c.args.place shadowed
          (Client, c.decides_on.ensures.names.0 holds)),
    )

pub returns-else-decides_on-clause-names : goal.returns-else-decides_on-clause-names
returns-else-decides_on-clause-names g c =
    let server = c.decides_on-else-decides_on.ensures.names in (
      λ e. (Server, server.0 e),
      λ decides.
          elim (on_a_side c.args.self.now c.args.place decides) [
            | inl on ↦ absurd (true≢false (sym (c.decides_on.ensures.names.1 on) ∙ c.if-decides_on.false))
            | inr on ↦ server.1 on
          ],
    )

pub returns-else-decides_on-clause-patterns : goal.returns-else-decides_on-clause-patterns
returns-else-decides_on-clause-patterns g c =
    let server = c.decides_on-else-decides_on in (
      λ e. shadowed_on_both c.args.self.now c.args.place (c.decides_on.ensures.patterns c.if-decides_on.false)
          (server.ensures.patterns e),
      λ shadowed. false_from_ne_true server.result
          (λ e. shadowed_decides_none c.args.self.now c.args.place shadowed (Server, server.ensures.names.0 e)),
    )
