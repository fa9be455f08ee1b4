use Rattle.std.proofs.Common.{◌≡◌, sym, ap, ◌∙◌, true≢false}
use Rattle.virtiofs_map.specs.FirstRule.{pattern}
use Rattle.virtiofs_map.specs.Names.{first}
use Rattle.virtiofs_map.specs.RuleParts.{rule_meant}
use Rattle.virtiofs_map.proofs.xattrmap.DecidingLemmas.{own_pattern_decided, none_decided_past, taken_where_not_first}
use Rattle.virtiofs_map.proofs.xattrmap.XattrMap.decides_on.Goals as goal

pub returns-in-Some-clause-names : goal.returns-in-Some-clause-names
returns-in-Some-clause-names g c =
    let side = c.args.side in
    let rules = c.args.self.now in
    let rule = rule_meant c.in-Some.rule in (
      λ e. record {
        name = c.pattern.result.now;
        is_name = c.is_first.ensures.is_name;
        is_first = c.is_first.ensures.first.0 e;
      },
      λ decides. c.is_first.ensures.first.1
          (ap (first side rules) c.pattern.ensures
          ∙ own_pattern_decided side rules c.args.place rule (sym c.in-Some.ensures.here) decides),
    )

pub returns-in-Some-clause-patterns : goal.returns-in-Some-clause-patterns
returns-in-Some-clause-patterns g c = λ e rule here on.
    (let side = c.args.side in
    let rules = c.args.self.now in
    let same : rule_meant c.in-Some.rule ≡ rule = (let both = c.in-Some.ensures.here ∙ here in cc) in
    taken_where_not_first side rules c.args.place rule here on
    (λ k. true≢false (sym (c.is_first.ensures.first.1
    (ap (first side rules) (c.pattern.ensures ∙ ap (pattern side) same) ∙ k)) ∙ e)))

pub returns-in-None-clause-names : goal.returns-in-None-clause-names
returns-in-None-clause-names g c = (
  λ e. absurd (true≢false (sym e)),
  λ decides. absurd (none_decided_past c.args.side c.args.self.now c.args.place (sym c.in-None.ensures.here) decides),
)
