use Rattle.std.proofs.Common.{rules}
use Rattle.virtiofs_mapcheck.proofs.RulesAnswerLemmas.{rule_refused, text_refused}
use Rattle.virtiofs_mapcheck.proofs.rules.rules_refusal.Goals as goal

pub returns-in-Some : goal.returns-in-Some
returns-in-Some g c = rule_refused _ c.args.which.now c.args.error.now _ c.in-Some.is c.rule_refusal.ensures

pub returns-in-NoRulesProvided : goal.returns-in-NoRulesProvided
returns-in-NoRulesProvided g c = search (rules, text_refused)
