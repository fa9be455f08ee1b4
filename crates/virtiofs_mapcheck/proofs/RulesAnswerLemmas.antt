-- A text of rules is refused by a line, in one way, or says one list of rules.
use Rattle.std.proofs.Common.{rules, ◌≡◌, ℕ, List, ◌++◌, Some, None, Result, Ok, Err, IfOk, String, refl, string_bytes}
use Rattle.std.proofs.Common.{inl, inr}
use Rattle.std.specs.Str.{chars}
use Rattle.virtiofs_map.specs.Rule.{MappingRule}
use Rattle.virtiofs_map.specs.RulesFault.{RuleFault, RulesFault, NoRules, InRule, rule_fault_of, rules_fault_of}
use Rattle.virtiofs_map.specs.declared.xattrmap.errors.Error.{Error}
use Rattle.virtiofs_map.specs.declared.xattrmap.errors.ErrorKind.TheVariants.{NoRulesProvided}
use Rattle.virtiofs_map.proofs.ForCallers.{rules_one_value, rules_no_fault, rules_one_fault}
use Rattle.virtiofs_mapcheck.specs.Outcome.{refusal, AreOne}
use Rattle.virtiofs_mapcheck.specs.RulesAnswer.{rules_fault_text, RefusesRules, WithRules}
use Rattle.virtiofs_output.specs.declared.outcome.Answered.{Answered}

-- ---- from what the library answers

-- the line says what the error tells
abbrev SaysFault : {A : Type 0} → List ℕ → Error A → String A → Type 0
SaysFault which error text =
    (fault : RulesFault) × (rules_fault_of error ≡ Some fault)
    × (string_bytes text ≡ refusal (which ++ rules_fault_text fault))

pub rule_refused : {A E : Type 0} (r : Result (String A) E) (which : List ℕ) (error : Error A) (number : ℕ)
    → error.rule ≡ Some number
    → IfOk r
    (λ text. (fault : RuleFault) × (rule_fault_of error.cause ≡ Some fault)
    × (string_bytes text ≡ refusal (which ++ rules_fault_text (InRule number fault)))) → IfOk r (SaysFault which error)
rule_refused (Ok text) which error number is (fault, tells, wrote) =
    (InRule number fault, rw (is, tells) refl, wrote)
rule_refused (Err e) which error number is wrote = tt

pub text_refused : {A E : Type 0} (r : Result (String A) E) (which : List ℕ) (error : Error A) → error.rule ≡ None
    → error.cause ≡ NoRulesProvided → IfOk r (λ text. string_bytes text ≡ refusal (which ++ rules_fault_text NoRules))
    → IfOk r (SaysFault which error)
text_refused {A} r which error is such wrote = search rules

-- ---- one answer

RefusesRules-one : (which said text other : List ℕ) → RefusesRules which said text → RefusesRules which said other
    → text ≡ other
RefusesRules-one which said text other (fault, has, is) (wrong, had, such) = search (rules, rules_one_fault)

-- where the rules have one answer, so has their text
pub WithRules-one : (which said : List ℕ) (Answers : List MappingRule → Answered → List ℕ → Type 0)
    → ((rules : List MappingRule) → AreOne (Answers rules)) → AreOne (WithRules which said Answers)
WithRules-one which said Answers each answered other text another (inl (rules, says, one)) (inl (others, told, two)) =
    each others answered other text another (rw (rules_one_value (chars said) rules others says told) at one) two
WithRules-one which said Answers each answered other text another (inl (rules, says, one))
    (inr (outcome, (fault, has, is))) = absurd (rules_no_fault (chars said) rules fault says has)
WithRules-one which said Answers each answered other text another (inr (outcome, (fault, has, is)))
    (inl (rules, says, two)) = absurd (rules_no_fault (chars said) rules fault says has)
WithRules-one which said Answers each answered other text another (inr one) (inr two) = search (rules, RefusesRules-one)
