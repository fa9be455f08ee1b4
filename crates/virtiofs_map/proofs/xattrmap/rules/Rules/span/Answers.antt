use Rattle.std.proofs.Common.{slice_get, IsSomeAnd, subst}
use Rattle.virtiofs_map.specs.NodeParts.{IsSpan}
use Rattle.virtiofs_map.specs.RuleParts.{KeptRules}
use Rattle.virtiofs_map.proofs.RuleRowLemmas.{rule_there}
use Rattle.virtiofs_map.proofs.xattrmap.rules.Rules.span.Goals as goal

pub returns : goal.returns
returns g c =
    let there =
    rule_there _ _ _ _ _ c.args.place c.self.invariant.stored
    (rw c.as_slice.ensures.value at c.in_ok-row.ensures.here.0)
    (rw c.as_slice.ensures.value at c.in_ok-row.ensures.here.1) c.span_of.ensures in
    subst
    (λ (kept : KeptRules). IsSomeAnd (slice_get kept.list c.args.place) (λ rule. IsSpan kept.bytes rule c.span_of.result))
    c.self.view_is (rw there.here there.is)
