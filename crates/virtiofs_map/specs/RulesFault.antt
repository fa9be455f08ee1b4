-- What is wrong with a text that is no text of rules: its first fault. A text is a list of characters.
use Rattle.std.specs.Prelude.{◌≡◌, ◌≢◌, ℕ, ◌+◌, List, [], ◌∷◌, ◌++◌, length, codes, Option, Some, None, Contains}
use Rattle.std.specs.Option.{option_map_or}
use Rattle.std.specs.Str.{chars}
use Rattle.std.specs.String.{string_bytes}
use Rattle.virtiofs_map.specs.Rule.{RuleType}
use Rattle.virtiofs_map.specs.RuleText.{ScopeName, RuleHead, Map, RuleAsWritten, trimmed, type_word, scope_word}
use Rattle.virtiofs_map.specs.RuleText.{head_fields, rule_fields, HasNoNul, Opens, Fields, RulesThen}
use Rattle.virtiofs_map.specs.Separator.{Lacks}
use Rattle.virtiofs_map.specs.declared.xattrmap.errors.PatternField.{PatternField}
use Rattle.virtiofs_map.specs.declared.xattrmap.errors.PatternField.TheVariants.{Key, Prepend}
use Rattle.virtiofs_map.specs.declared.xattrmap.errors.Error.{Error}
use Rattle.virtiofs_map.specs.declared.xattrmap.errors.ErrorKind.{ErrorKind}
use Rattle.virtiofs_map.specs.declared.xattrmap.errors.ErrorKind.TheVariants as kinds

-- what is wrong with a rule
pub data RuleFault : Type 0 where
  -- the text that stands in place of a scope, and the list of scopes that the error prints; and the same for a type
  InvalidScope : List ℕ → List ℕ → RuleFault
  InvalidType : List ℕ → List ℕ → RuleFault
  IncompleteRule : RuleFault
  MapRuleViolation : RuleFault
  NulInPattern : PatternField → RuleFault

-- what is wrong with a text
pub data RulesFault : Type 0 where
  -- the text has no rules
  NoRules : RulesFault
  -- the rule of that number, counted from 1, is at fault
  InRule : ℕ → RuleFault → RulesFault
  -- no text has this fault: it is that of an error that is no fault of a text
  NotOfText : RulesFault

-- ---- the fault that an error tells

-- the fault of a rule, if the error is about one
abbrev pub rule_fault_of : {A : Type 0} → ErrorKind A → Option RuleFault
rule_fault_of (kinds.InvalidScope got expected) = Some (InvalidScope (chars (string_bytes got)) (chars expected.now))
rule_fault_of (kinds.InvalidType got expected) = Some (InvalidType (chars (string_bytes got)) (chars expected.now))
rule_fault_of kinds.IncompleteRule = Some IncompleteRule
rule_fault_of kinds.MapRuleViolation = Some MapRuleViolation
rule_fault_of (kinds.NulInPattern pattern) = Some (NulInPattern pattern)
rule_fault_of other = None

-- the fault of an error with this cause that blames the rule of that number, or blames no rule
abbrev pub fault_at : {A : Type 0} → Option ℕ → ErrorKind A → Option RulesFault
fault_at (Some k) cause = Some (option_map_or (InRule k) (rule_fault_of cause) NotOfText)
fault_at None kinds.OutOfMemory = None
fault_at None kinds.NoRulesProvided = Some NoRules
fault_at None other = Some NotOfText

-- The fault of a text that the error reports. There is none if the error is out of memory and blames no rule. (Out of
-- memory that blames a rule is `NotOfText`.)
abbrev pub rules_fault_of : {A : Type 0} → Error A → Option RulesFault
rules_fault_of error = fault_at error.rule error.cause

-- ---- the fault of a rule

-- these are the first fields of some rule, and more are to come
pub record IsUnfinished (fields : List (List ℕ)) : Type 0 where
  pub rule : RuleAsWritten
  pub missing : List (List ℕ)
  pub more : missing ≢ []
  pub are : fields ++ missing ≡ rule_fields rule
  pub no_nul : HasNoNul rule

-- what is wrong with a rule that begins with the delimiter d, where body follows: the first of its fields that is at
-- fault, or that something follows a map rule
abbrev pub HasRuleFault : ℕ → List ℕ → RuleFault → Type 0
HasRuleFault d body IncompleteRule =
    (fields : List (List ℕ)) × (rest : List ℕ) × Fields d body fields rest × IsUnfinished fields × Lacks d rest
HasRuleFault d body (InvalidType got expected) =
    (rest : List ℕ) × Fields d body (got ∷ []) rest × ((kind : RuleType) → got ≢ type_word kind) × (got ≢ codes "map")
    × (expected ≡ codes "prefix, ok, bad, map")
HasRuleFault d body (InvalidScope got expected) =
    (kind : RuleType) × (rest : List ℕ) × Fields d body (type_word kind ∷ got ∷ []) rest
    × ((scope : ScopeName) → got ≢ scope_word scope) × (expected ≡ codes "all, client, server")
HasRuleFault d body (NulInPattern Key) =
    (head : RuleHead) × (key : List ℕ) × (rest : List ℕ) × Fields d body (head_fields head ++ key ∷ []) rest
    × Contains key 0
HasRuleFault d body (NulInPattern Prepend) =
    (head : RuleHead) × (key : List ℕ) × (prepend : List ℕ) × (rest : List ℕ)
    × Fields d body (head_fields head ++ key ∷ prepend ∷ []) rest × Lacks 0 key × Contains prepend 0
HasRuleFault d body MapRuleViolation =
    (rule : RuleAsWritten) × (rest : List ℕ) × (rule.head ≡ Map) × Fields d body (rule_fields rule) rest × HasNoNul rule
    × (rest ≢ [])

-- ---- the first fault of a text

-- rule number k of the text, counted from 1, is the first at fault
pub record IsFirstAtFault (text : List ℕ) (k : ℕ) (fault : RuleFault) : Type 0 where
  pub front : List RuleAsWritten
  pub rest : List ℕ
  pub delimiter : ℕ
  pub body : List ℕ
  pub number : k ≡ length front + 1
  pub before : RulesThen (trimmed text) front rest
  pub opens : Opens rest delimiter body
  pub wrong : HasRuleFault delimiter body fault

-- what is wrong with the text
abbrev pub HasRulesFault : List ℕ → RulesFault → Type 0
HasRulesFault text NoRules = trimmed text ≡ []
HasRulesFault text (InRule k fault) = IsFirstAtFault text k fault
HasRulesFault text NotOfText = ⊥
