use Rattle.std.proofs.Common.{Some, ap, arith, sym, ◌∙◌}
use Rattle.virtiofs_map.proofs.RuleRowLemmas.{rule_there, same_rule_fields}
use Rattle.virtiofs_map.proofs.xattrmap.image.stored.read_rule.Goals as goal

pub returns-then-key-prepend : goal.returns-then-key-prepend
returns-then-key-prepend c = λ rules are.
    (let there =
    rule_there rules _ c.args.bytes.now _ _ c.args.at are c.in_ok-row.ensures.here.0 c.in_ok-row.ensures.here.1
    c.span_of-key.ensures in
    absurd (grind (arith, there.is.rising, there.is.rising_on, there.is.within, c.then-key-prepend.either)))

pub returns : goal.returns
returns c = λ rules are.
    (let there =
    rule_there rules _ c.args.bytes.now _ _ c.args.at are c.in_ok-row.ensures.here.0 c.in_ok-row.ensures.here.1
    c.span_of-key.ensures in
    ap Some (same_rule_fields _ _ (cc) (cc (c.from_bits_retain.ensures tt)) (cc (c.from_bits_retain.ensures tt)) (cc) (cc) ∙ there.back) ∙ sym there.here)
