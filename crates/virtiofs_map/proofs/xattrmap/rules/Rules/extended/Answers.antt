use Rattle.std.proofs.Common.{◌++◌, ◌∷◌, [], ap, ◌∙◌, arith, rules}
use Rattle.virtiofs_map.specs.RuleParts.{KeptRules, rule_with}
use Rattle.virtiofs_map.proofs.RuleRowLemmas.{rule_pushed}
use Rattle.virtiofs_map.proofs.xattrmap.rules.Rules.extended.Goals as goal

pub invariant_of-result : goal.invariant_of-result
invariant_of-result g c =
    (rule_pushed _ _ _ (rule_with c.args.kind c.args.scope c.args.key.now c.args.prepend.now) _ _ _ _ _ _ _ _ _
    c.self.invariant c.in_ok-extend_from_slice.ensures.items c.in_ok-extend_from_slice-2.ensures.items
    (search rules) (search rules) (search rules) c.acts_number.ensures (omega arith)
    c.in_ok-push_le_u64.ensures c.in_ok-push_le_u64-2.ensures c.in_ok-push_le_u64-3.ensures).1

pub returns : goal.returns
returns g c =
    let rule = rule_with c.args.kind c.args.scope c.args.key.now c.args.prepend.now in
    (rule_pushed _ _ _ rule _ _ _ _ _ _ _ _ _
    c.self.invariant c.in_ok-extend_from_slice.ensures.items c.in_ok-extend_from_slice-2.ensures.items
    (search rules) (search rules) (search rules) c.acts_number.ensures (omega arith)
    c.in_ok-push_le_u64.ensures c.in_ok-push_le_u64-2.ensures c.in_ok-push_le_u64-3.ensures).0
    ∙ ap (λ (kept : KeptRules). kept.list ++ rule ∷ []) c.self.view_is
