-- What is answered to a text of rules.
use Rattle.std.specs.Prelude.{◌≡◌, ◌⊎◌, ℕ, List, [], ◌++◌, codes, encode_utf8_all}
use Rattle.std.specs.Fmt.{decimal}
use Rattle.std.specs.Str.{chars}
use Rattle.virtiofs_map.specs.Rule.{MappingRule}
use Rattle.virtiofs_map.specs.RuleText.{SaysRules}
use Rattle.virtiofs_map.specs.RulesFault.{RuleFault, InvalidScope, InvalidType, IncompleteRule, MapRuleViolation}
use Rattle.virtiofs_map.specs.RulesFault.{NulInPattern, RulesFault, NoRules, InRule, NotOfText, HasRulesFault}
use Rattle.virtiofs_map.specs.declared.xattrmap.errors.PatternField.{PatternField}
use Rattle.virtiofs_map.specs.declared.xattrmap.errors.PatternField.TheVariants.{Key, Prepend}
use Rattle.virtiofs_output.specs.Written.{quoted}
use Rattle.virtiofs_mapcheck.specs.Outcome.{refusal}
use Rattle.virtiofs_output.specs.declared.outcome.Answered.{Answered}
use Rattle.virtiofs_output.specs.declared.outcome.Answered.TheVariants.{Refused}

-- how a pattern is named
abbrev pub pattern_word : PatternField → List ℕ
pattern_word Key = codes "key"
pattern_word Prepend = codes "prepend"

-- what is said of a rule
abbrev pub rule_fault_text : RuleFault → List ℕ
rule_fault_text (InvalidScope got expected) = codes "InvalidScope " ++ quoted (encode_utf8_all got)
rule_fault_text (InvalidType got expected) = codes "InvalidType " ++ quoted (encode_utf8_all got)
rule_fault_text IncompleteRule = codes "IncompleteRule"
rule_fault_text MapRuleViolation = codes "MapRuleViolation"
rule_fault_text (NulInPattern pattern) = codes "NulInPattern " ++ pattern_word pattern

-- what is said of a text of rules, whose rules are counted from 1
abbrev pub rules_fault_text : RulesFault → List ℕ
rules_fault_text NoRules = codes "NoRulesProvided"
rules_fault_text (InRule number fault) = codes "rule " ++ decimal number ++ codes ": " ++ rule_fault_text fault
rules_fault_text NotOfText = []

-- the text says no rules, and the line names its fault, after the words that tell which text is meant
abbrev pub RefusesRules : List ℕ → List ℕ → List ℕ → Type 0
RefusesRules which said text =
    (fault : RulesFault) × HasRulesFault (chars said) fault × (text ≡ refusal (which ++ rules_fault_text fault))

-- the text says rules, to which this is an answer, or it is refused
abbrev pub WithRules : List ℕ → List ℕ → (List MappingRule → Answered → List ℕ → Type 0) → Answered → List ℕ → Type 0
WithRules which said Answers answered text =
    ((rules : List MappingRule) × SaysRules (chars said) rules × Answers rules answered text)
    ⊎ ((answered ≡ Refused) × RefusesRules which said text)
