-- No pattern of a rule that was read holds a zero.
use Rattle.std.proofs.Common.{◌≢◌, ℕ, List, [], ◌∷◌, ◌++◌, arith, All, encode_utf8_all, rules}
use Rattle.std.specs.List.{AllByRecursion}
use Rattle.std.proofs.lemmas.Bool.{cond_both}
use Rattle.std.proofs.lemmas.List.Elements.{All-nil, All-append, All-same, All-from_recursion}
use lib.Utf8.{encode}
use Rattle.virtiofs_map.specs.Rule.{RuleType, MappingRule, HasNoZero}
use Rattle.virtiofs_map.specs.RuleText.{ScopeName, RuleHead, Typed, Map, RuleAsWritten, HasNoNul, RulesThen, RuleText}
use Rattle.virtiofs_map.specs.RuleText.{rule_of, rules_of, expanded, SaysRules}
use Rattle.virtiofs_map.specs.Separator.{Lacks}

abbrev pub IsNotZero : ℕ → Type 0
IsNotZero byte = byte ≢ 0

-- the bytes of a character hold a zero only where it is U+0000
char_no_zero : (c : ℕ) → c ≢ 0 → All IsNotZero (encode c)
unfolding encode
char_no_zero c some = grind (arith, All-from_recursion, cond_both)

pub text_no_zero : (text : List ℕ) → Lacks 0 text → All IsNotZero (encode_utf8_all text)
text_no_zero [] lacks = All-nil IsNotZero
text_no_zero (c ∷ cs) lacks =
    All-append IsNotZero (encode c) (encode_utf8_all cs) (char_no_zero c lacks.0) (text_no_zero cs lacks.1)

rule_no_zero : (kind : RuleType) (word : ScopeName) (key prepend : List ℕ) → Lacks 0 key → Lacks 0 prepend
    → HasNoZero (rule_of kind word key prepend)
rule_no_zero kind word key prepend k p = record { in_key = text_no_zero key k; in_prepend = text_no_zero prepend p }

rules_no_zero : (head : RuleHead) (key prepend : List ℕ) → Lacks 0 key → Lacks 0 prepend
    → All HasNoZero (rules_of head key prepend)
rules_no_zero (Typed kind word) key prepend k p = grind (arith, All-from_recursion, text_no_zero)
rules_no_zero Map [] prepend k p = grind (arith, All-from_recursion, text_no_zero)
rules_no_zero Map (c ∷ cs) prepend k p =
    All-from_recursion HasNoZero (rules_of Map (c ∷ cs) prepend) (search (rules, rule_no_zero))

pub expanded_no_zero : (rules : List RuleAsWritten) → AllByRecursion HasNoNul rules → All HasNoZero (expanded rules)
expanded_no_zero [] all = All-nil HasNoZero
expanded_no_zero (rule ∷ rules) all = search (expanded_no_zero rules all.1, All-append, rules_no_zero)

-- the rules of a text hold no U+0000
front_no_nul : (text : List ℕ) (rules : List RuleAsWritten) (rest : List ℕ) (last : RuleAsWritten)
    → RulesThen text rules rest → HasNoNul last → AllByRecursion HasNoNul (rules ++ last ∷ [])
front_no_nul text [] rest last read none = (none, tt)
front_no_nul text (rule ∷ rules) rest last (blanks, next, whole, _, _, others) none =
    (whole.no_nul, front_no_nul next rules rest last others none)

pub text_no_nul : (text : List ℕ) (rules : List RuleAsWritten) → RuleText text rules → AllByRecursion HasNoNul rules
text_no_nul text rules read = grind (arith, front_no_nul)

pub read_no_zero : (text : List ℕ) (rules : List MappingRule) → SaysRules text rules → All HasNoZero rules
read_no_zero text rules (written, read, are) = search (rules, All-same, expanded_no_zero, text_no_nul)
