-- What the private functions on rules and their text say. Only they cite these definitions.
use Rattle.std.specs.Prelude.{◌≡◌, ◌⊎◌, ℕ, Bool, List, [], ◌∷◌, length, ◌==◌, Contains, IsSomeAnd}
use Rattle.std.specs.Int.RustNames.{bit_and}
use Rattle.std.specs.Str.{chars}
use Rattle.virtiofs_map.specs.NamesImage.{AreRuleRows, pattern_bytes}
use Rattle.virtiofs_map.specs.Rule.{RuleType, MappingRule}
use Rattle.virtiofs_map.specs.Rule as types
use Rattle.virtiofs_map.specs.RuleText.{ScopeName, RuleHead, RuleAsWritten, rules_of, Opens, Fields}
use Rattle.virtiofs_map.specs.RuleText as texts
use Rattle.virtiofs_map.specs.RulesFault.{RuleFault, IncompleteRule, NulInPattern, HasRuleFault, rule_fault_of}
use Rattle.virtiofs_map.specs.Separator.{Lacks}
use Rattle.virtiofs_map.specs.declared.xattrmap.errors.ErrorKind.{ErrorKind}
use Rattle.virtiofs_map.specs.declared.xattrmap.errors.ErrorKind.TheVariants.{OutOfMemory}
use Rattle.virtiofs_map.specs.declared.xattrmap.errors.PatternField.{PatternField}
use Rattle.virtiofs_map.specs.declared.xattrmap.rules.RuleKind.{RuleKind}
use Rattle.virtiofs_map.specs.declared.xattrmap.rules.RuleKind.TheVariants.{Prefix, Okay, Bad, Unsupported}
use Rattle.virtiofs_map.specs.declared.xattrmap.rules.RuleRef.{RuleRef}
use Rattle.virtiofs_map.specs.declared.xattrmap.scopes.Scope.{Scope}
use Rattle.virtiofs_map.specs.declared.xattrmap.scopes.ScopeWord.{ScopeWord}
use Rattle.virtiofs_map.specs.declared.xattrmap.scopes.ScopeWord.TheVariants.{All, Client, Server}
use Rattle.virtiofs_map.specs.declared.xattrmap.scopes.Side.{Side}
use Rattle.virtiofs_map.specs.declared.xattrmap.scopes.Side.TheVariants as sides
use Rattle.virtiofs_map.specs.declared.xattrmap.reader.Head.{Head}
use Rattle.virtiofs_map.specs.declared.xattrmap.reader.Head.TheVariants.{Typed, Map}
use Rattle.virtiofs_map.specs.declared.xattrmap.reader.WrittenRule.{WrittenRule}

-- ---- the code's types, as the definitions have them

abbrev pub type_of : RuleKind → RuleType
type_of Prefix = types.Prefix
type_of Okay = types.Okay
type_of Bad = types.Bad
type_of Unsupported = types.Unsupported

abbrev pub scope_of : ScopeWord → ScopeName
scope_of All = texts.All
scope_of Client = texts.Client
scope_of Server = texts.Server

abbrev pub head_of : Head → RuleHead
head_of (Typed kind scope) = texts.Typed (type_of kind) (scope_of scope)
head_of Map = texts.Map

-- a written rule, in characters
abbrev pub as_written : WrittenRule → RuleAsWritten
as_written rule = record { head = head_of rule.head; key = chars rule.key.now; prepend = chars rule.prepend.now }

-- the rules that a written rule stands for
abbrev pub rules_for : WrittenRule → List MappingRule
rules_for rule = rules_of (head_of rule.head) (chars rule.key.now) (chars rule.prepend.now)

-- ---- sets of sides, as bits: 1 for the client, 2 for the server

-- whether the set holds the side
abbrev pub holds : Side → ℕ → Bool
holds sides.Client bits = bit_and bits 1 == 1
holds sides.Server bits = bit_and bits 2 == 2

-- the sides that a word names
abbrev pub bits_of : ScopeWord → ℕ
bits_of All = 3
bits_of Client = 1
bits_of Server = 2

-- ---- rules as they are kept

-- the rule of that type, for those sides, with these patterns
abbrev pub rule_with : RuleKind → Scope → List ℕ → List ℕ → MappingRule
rule_with kind scope key prepend = record {
  kind = type_of kind;
  client = holds sides.Client scope.0;
  server = holds sides.Server scope.0;
  key = key;
  prepend = prepend;
}

-- the rule that a lent rule is
abbrev pub rule_meant : RuleRef → MappingRule
rule_meant rule = rule_with rule.kind rule.scope rule.key.now rule.prepend.now

-- the rules in order, their rows, and the bytes of all their patterns
pub record KeptRules : Type 0 where
  pub list : List MappingRule
  pub rows : List ℕ
  pub bytes : List ℕ

-- the rows are those of the rules, and there are no bytes but those of their patterns
pub record AreKept (rules : List MappingRule) (rows bytes : List ℕ) : Type 0 where
  pub stored : AreRuleRows rules rows bytes
  pub whole : length bytes ≡ pattern_bytes rules

-- ---- reading

-- the text begins with a delimiter that is no blank
abbrev pub IsOpened : List ℕ → Type 0
IsOpened text = (d : ℕ) × (body : List ℕ) × Opens text d body

-- the text begins with a rule that has that fault
abbrev pub BeginsWithFault : List ℕ → RuleFault → Type 0
BeginsWithFault text fault = (d : ℕ) × (body : List ℕ) × Opens text d body × HasRuleFault d body fault

-- the field `which` (key or prepend) at the start of the text is at fault: the delimiter `d` does not close it, or it
-- contains U+0000
abbrev pub HasPatternFault : ℕ → List ℕ → PatternField → RuleFault → Type 0
HasPatternFault d text which fault =
    ((fault ≡ IncompleteRule) × Lacks d text)
    ⊎ ((fault ≡ NulInPattern which) × (field : List ℕ) × (rest : List ℕ) × Fields d text (field ∷ []) rest
    × Contains field 0)

-- the error tells out of memory, or a fault of a rule of which this holds
abbrev pub TellsFault : {A : Type 0} → (RuleFault → Type 0) → ErrorKind A → Type 0
TellsFault P cause = (cause ≡ OutOfMemory) ⊎ IsSomeAnd (rule_fault_of cause) P
