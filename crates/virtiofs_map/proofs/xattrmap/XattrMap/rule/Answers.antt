use Rattle.std.proofs.Common.{◌≡◌, ℕ, List, All, IfSome, Option, Some, None, option_map, slice_get, subst, sym}
use Rattle.std.proofs.lemmas.Option.{get_or_from_slice_get, slice_get_within}
use Rattle.virtiofs_map.specs.Rule.{HasNoZero, MappingRule}
use Rattle.virtiofs_map.specs.RuleParts.{rule_meant}
use Rattle.virtiofs_map.specs.declared.xattrmap.rules.RuleRef.{RuleRef}
use Rattle.virtiofs_map.proofs.xattrmap.XattrMap.rule.Goals as goal

-- what holds of each rule holds of the one that is lent
lent_has : (P : MappingRule → Type 0) (rules : List MappingRule) (place : ℕ) (lent : Option RuleRef) → All P rules
    → option_map rule_meant lent ≡ slice_get rules place → IfSome lent (λ rule. P (rule_meant rule))
lent_has P rules place None all e = tt
lent_has P rules place (Some rule) all e =
    subst P (get_or_from_slice_get rules place (rule_meant rule) (rule_meant rule) (sym e))
    (all place (rule_meant rule) (slice_get_within rules place (rule_meant rule) (sym e)))

pub returns-clause-no_zero : goal.returns-clause-no_zero
returns-clause-no_zero g c =
    lent_has HasNoZero c.args.self.now c.args.place c.rule.result c.as_ref.ensures.no_zero
    (c.rule.ensures c.args.self.now c.as_ref.ensures)
