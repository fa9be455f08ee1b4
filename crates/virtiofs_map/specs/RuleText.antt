-- What a text of rules is, and which rules it stands for. A text is a list of characters.
use Rattle.std.specs.Prelude.{◌≡◌, ◌≢◌, ℕ, Bool, true, false, List, [], ◌∷◌, ◌++◌, length, codes, encode_utf8_all}
use Rattle.std.specs.Char.{is_ascii_whitespace}
use Rattle.std.specs.List.{AllByRecursion, flat_map}
use Rattle.std.specs.Str.{skip_leading_whitespace, drop_trailing_whitespace}
use Rattle.virtiofs_map.specs.Rule.{RuleType, Prefix, Okay, Bad, Unsupported, MappingRule}
use Rattle.virtiofs_map.specs.Separator.{Lacks}

-- the text without the white space at its two ends
abbrev pub trimmed : List ℕ → List ℕ
trimmed text = drop_trailing_whitespace (skip_leading_whitespace text)

-- a blank: space, tab, line feed, form feed or carriage return
abbrev pub IsBlank : ℕ → Type 0
IsBlank c = is_ascii_whitespace c ≡ true

-- the names of the sides on which a rule acts
pub data ScopeName : Type 0 where
  All : ScopeName
  Client : ScopeName
  Server : ScopeName

-- what comes before the key of a rule: its type and its scope, or the word map
pub data RuleHead : Type 0 where
  Typed : RuleType → ScopeName → RuleHead
  Map : RuleHead

-- a rule as it is written
pub record RuleAsWritten : Type 0 where
  pub head : RuleHead
  pub key : List ℕ
  pub prepend : List ℕ

-- ---- a whole rule, and a text of rules

abbrev pub type_word : RuleType → List ℕ
type_word Prefix = codes "prefix"
type_word Okay = codes "ok"
type_word Bad = codes "bad"
type_word Unsupported = codes "unsupported"

abbrev pub scope_word : ScopeName → List ℕ
scope_word All = codes "all"
scope_word Client = codes "client"
scope_word Server = codes "server"

abbrev pub head_fields : RuleHead → List (List ℕ)
head_fields (Typed kind scope) = type_word kind ∷ scope_word scope ∷ []
head_fields Map = codes "map" ∷ []

-- the fields of a rule, in order
abbrev pub rule_fields : RuleAsWritten → List (List ℕ)
rule_fields rule = head_fields rule.head ++ rule.key ∷ rule.prepend ∷ []

-- neither pattern of the rule holds U+0000
abbrev pub HasNoNul : RuleAsWritten → Type 0
HasNoNul rule = Lacks 0 rule.key × Lacks 0 rule.prepend

-- the text is a delimiter d, which is no blank, and then body
abbrev pub Opens : List ℕ → ℕ → List ℕ → Type 0
Opens text d body = (text ≡ d ∷ body) × (is_ascii_whitespace d ≡ false)

-- the text is these fields, each followed by d, which no field holds, and then rest
abbrev pub Fields : ℕ → List ℕ → List (List ℕ) → List ℕ → Type 0
Fields d text [] rest = text ≡ rest
Fields d text (field ∷ fields) rest =
    (after : List ℕ) × (text ≡ field ++ d ∷ after) × Lacks d field × Fields d after fields rest

-- the text is a whole rule, and then after
pub record RuleThen (text : List ℕ) (rule : RuleAsWritten) (after : List ℕ) : Type 0 where
  pub delimiter : ℕ
  pub body : List ℕ
  pub opens : Opens text delimiter body
  pub fields : Fields delimiter body (rule_fields rule) after
  pub no_nul : HasNoNul rule

-- the text is these rules, none of them a map rule, each followed by any number of blanks, and then rest
abbrev pub RulesThen : List ℕ → List RuleAsWritten → List ℕ → Type 0
RulesThen text [] rest = text ≡ rest
RulesThen text (rule ∷ rules) rest =
    (blanks : List ℕ) × (next : List ℕ) × RuleThen text rule (blanks ++ next) × (rule.head ≢ Map)
    × AllByRecursion IsBlank blanks × RulesThen next rules rest

-- Without its white space at the ends, the text is these rules, at least one, with blanks or nothing between two of
-- them. Only the last may be a map rule.
pub record RuleText (text : List ℕ) (rules : List RuleAsWritten) : Type 0 where
  pub front : List RuleAsWritten
  pub last : RuleAsWritten
  pub rest : List ℕ
  pub are : rules ≡ front ++ last ∷ []
  pub before : RulesThen (trimmed text) front rest
  pub ends : RuleThen rest last []

-- ---- what the rules stand for

abbrev pub on_client : ScopeName → Bool
on_client All = true
on_client Client = true
on_client Server = false

abbrev pub on_server : ScopeName → Bool
on_server All = true
on_server Client = false
on_server Server = true

-- a rule of that type for these sides, its patterns in UTF-8
abbrev pub rule_of : RuleType → ScopeName → List ℕ → List ℕ → MappingRule
rule_of kind scope key prepend =
    record {
      kind = kind;
      client = on_client scope;
      server = on_server scope;
      key = encode_utf8_all key;
      prepend =
          encode_utf8_all prepend;
    }

-- The rules that a written one stands for. A map rule with an empty key gives each name of the guest the prepend, and
-- shows the guest no other names. With a key it does so for the names that begin with the key, and lets other names
-- cross as they are.
abbrev pub rules_of : RuleHead → List ℕ → List ℕ → List MappingRule
rules_of (Typed kind scope) key prepend = rule_of kind scope key prepend ∷ []
rules_of Map [] prepend = rule_of Prefix All [] prepend ∷ rule_of Bad All [] [] ∷ []
rules_of Map (c ∷ cs) prepend =
    rule_of Prefix All (c ∷ cs) prepend ∷ rule_of Bad All prepend (c ∷ cs) ∷ rule_of Okay All [] [] ∷ []

-- what the written rules stand for, in order
abbrev pub expanded : List RuleAsWritten → List MappingRule
expanded rules = flat_map (λ rule. rules_of rule.head rule.key rule.prepend) rules

-- the text is written rules that stand for these
abbrev pub SaysRules : List ℕ → List MappingRule → Type 0
SaysRules text rules = (written : List RuleAsWritten) × RuleText text written × (rules ≡ expanded written)

-- the text is that many written rules; a map rule is one
abbrev pub CountsRules : List ℕ → ℕ → Type 0
CountsRules text count = (written : List RuleAsWritten) × RuleText text written × (count ≡ length written)
