-- An image has 512 bytes, and 64 for each byte of the text of its rules, at most.
use Rattle.std.proofs.Common.{◌≡◌, ◌≢◌, ℕ, ◌+◌, ◌-◌, ◌*◌, ◌≤◌, Bool, true, false, ◌&&◌, cond, eqb, List, [], ◌∷◌, ◌++◌}
use Rattle.std.proofs.Common.{length, map, sum_by, refl, sym, ap, ◌∙◌, arith, length-append, rules}
use Rattle.std.specs.Char.{is_whitespace}
use Rattle.std.specs.List.{filter}
use Rattle.std.specs.Str.{IsUtf8, chars, drop_trailing_whitespace, encode_utf8_all, skip_leading_whitespace}
use Rattle.std.proofs.lemmas.Bool.{cond_both}
use Rattle.std.proofs.lemmas.Str.{encodes-append, encodes-chars, length-le-encodes}
use Rattle.virtiofs_map.specs.NodeParts.{patterns_on}
use Rattle.virtiofs_map.specs.FirstRule.{acts, pattern}
use Rattle.virtiofs_map.specs.NamesImage.{image_length, pattern_bytes}
use Rattle.virtiofs_map.specs.Rule.{MappingRule, RuleType}
use Rattle.virtiofs_map.specs.RuleText.{Fields, Map, RuleAsWritten, RuleHead, RuleThen, RulesThen, SaysRules}
use Rattle.virtiofs_map.specs.RuleText.{ScopeName, Typed, expanded, rule_fields, rules_of, trimmed}
use Rattle.virtiofs_map.specs.declared.xattrmap.scopes.Side.{Side}
use Rattle.virtiofs_map.proofs.xattrmap.NodeCountLemmas.{held, nodes_most, worth}
use Rattle.std.proofs.lemmas.List.Sums.{sum_by-append, sum_by-cons}
use Rattle.virtiofs_map.proofs.ReadSoFarLemmas.{expanded_snoc}
use Rattle.virtiofs_map.specs.declared.xattrmap.scopes.Side.TheVariants as sides

-- ---- what rules add

-- what a rule adds to the trie of a side
abbrev rule_worth : Side → MappingRule → ℕ
rule_worth side rule = cond (acts side rule) (6 + length (pattern side rule)) 0

abbrev side_worth : Side → List MappingRule → ℕ
side_worth side rules = sum_by (rule_worth side) rules

held_is : (side : Side) (rules : List MappingRule) → held (patterns_on side rules) [] ≡ side_worth side rules
held_is side [] = refl
held_is side (rule ∷ rules) = by (acts side rule) (held_is side rules) ∙ sym (sum_by-cons (rule_worth side) rule rules) where
  by : (acting : Bool) → held (patterns_on side rules) [] ≡ side_worth side rules
      → held (map (pattern side) (cond acting (rule ∷ filter (acts side) rules) (filter (acts side) rules))) []
      ≡ cond acting (6 + length (pattern side rule)) 0 + side_worth side rules
  by true rest = omega (arith, rest, sum_by-cons (worth []) (pattern side rule) (patterns_on side rules))
  by false rest = omega (arith, rest)

-- what rules add to an image, with 6 text nodes more for each side than it can have
abbrev cost : List MappingRule → ℕ
cost rules =
    24 * (side_worth sides.Client rules + side_worth sides.Server rules + length rules) + pattern_bytes rules

patterns_append : (rules more : List MappingRule)
    → pattern_bytes (rules ++ more) ≡ pattern_bytes rules + pattern_bytes more
patterns_append [] more = omega arith
patterns_append (rule ∷ rules) more = omega (arith, patterns_append rules more)

cost_append : (rules more : List MappingRule) → cost (rules ++ more) ≡ cost rules + cost more
cost_append rules more = grind (arith, sum_by-append, patterns_append, length-append)

image_most : (rules : List MappingRule)
    → image_length rules
    ≤ 104 + 24 * ((side_worth sides.Client rules - 6) + (side_worth sides.Server rules - 6) + length rules)
    + pattern_bytes rules
unfolding image_length
image_most rules = grind (arith, nodes_most, held_is)

-- ---- how many bytes characters have

abbrev bytes_of : List ℕ → ℕ
bytes_of text = length (encode_utf8_all text)

bytes_append : (text more : List ℕ) → bytes_of (text ++ more) ≡ bytes_of text + bytes_of more
bytes_append text more = search (rules, encodes-append, length-append)

bytes_cons : (c : ℕ) (text : List ℕ) → bytes_of (c ∷ text) ≡ bytes_of (c ∷ []) + bytes_of text
bytes_cons c text = bytes_append (c ∷ []) text

bytes_some : (c : ℕ) (text : List ℕ) → 1 + bytes_of text ≤ bytes_of (c ∷ text)
bytes_some c text = omega (arith, bytes_cons c text, length-le-encodes (c ∷ []))

bytes_skipped : (text : List ℕ) → bytes_of (skip_leading_whitespace text) ≤ bytes_of text
bytes_skipped [] = omega arith
bytes_skipped (c ∷ text) =
    cond_both (is_whitespace c) (skip_leading_whitespace text) (c ∷ text) (λ left. bytes_of left ≤ bytes_of (c ∷ text))
    (λ _. omega (arith, bytes_skipped text, bytes_some c text)) (λ _. omega arith)

bytes_dropped : (text : List ℕ) → bytes_of (drop_trailing_whitespace text) ≤ bytes_of text
bytes_dropped [] = omega arith
bytes_dropped (c ∷ text) =
    let rest = bytes_dropped text in
    let left = bytes_cons c (drop_trailing_whitespace text) in
    cond_both (is_whitespace c && eqb (length (drop_trailing_whitespace text)) 0) [] (c ∷ drop_trailing_whitespace text)
    (λ kept. bytes_of kept ≤ bytes_of (c ∷ text)) (λ _. omega arith) (λ _. omega (arith, rest, bytes_cons c text, left))

-- ---- what rules have in a text

fields_bytes : (d : ℕ) (text : List ℕ) (fields : List (List ℕ)) (rest : List ℕ) → Fields d text fields rest
    → sum_by (λ field. bytes_of field + 1) fields + bytes_of rest ≤ bytes_of text
fields_bytes d text [] rest is = omega (arith, ap bytes_of is)
fields_bytes d text (field ∷ fields) rest (after, is, lacks, more) =
    let one = bytes_some d after in
    omega (
      arith,
      fields_bytes d after fields rest more,
      ap bytes_of is ∙ bytes_append field (d ∷ after),
      one,
      sum_by-cons (λ field. bytes_of field + 1) field fields,
    )

-- the fields of a rule, the delimiter before them, and one after each
rule_bytes : (text : List ℕ) (rule : RuleAsWritten) (after : List ℕ) → RuleThen text rule after
    → 1 + sum_by (λ field. bytes_of field + 1) (rule_fields rule) + bytes_of after ≤ bytes_of text
rule_bytes text rule after is = search (rules, bytes_some, fields_bytes)

typed_cost : (kind : RuleType) (scope : ScopeName) (key prepend : List ℕ)
    → cost (rules_of (Typed kind scope) key prepend) ≤ 320 + 64 * (bytes_of key + bytes_of prepend)
typed_cost kind scope key prepend = grind arith

-- a rule of a type costs 64 for each of its bytes at most
typed_bytes : (text : List ℕ) (head : RuleHead) (key prepend after : List ℕ)
    → RuleThen text record { head = head; key = key; prepend = prepend } after → head ≢ Map
    → cost (rules_of head key prepend) + 64 * bytes_of after ≤ 64 * bytes_of text
typed_bytes text Map key prepend after is typed = absurd (typed refl)
typed_bytes text (Typed kind scope) key prepend after is typed =
    let costs = typed_cost kind scope key prepend in
    omega (arith, rule_bytes text record { head = Typed kind scope; key = key; prepend = prepend } after is, costs)

rules_bytes : (text : List ℕ) (rules : List RuleAsWritten) (rest : List ℕ) → RulesThen text rules rest
    → cost (expanded rules) + 64 * bytes_of rest ≤ 64 * bytes_of text
rules_bytes text [] rest is = omega (arith, ap bytes_of is)
rules_bytes text (rule ∷ rules) rest (blanks, next, is, typed, blank, more) =
    let later = rules_bytes next rules rest more in
    let gap = bytes_append blanks next in
    let both = cost_append (rules_of rule.head rule.key rule.prepend) (expanded rules) in
    omega (arith, typed_bytes text rule.head rule.key rule.prepend (blanks ++ next) is typed, later, gap, both)

-- ---- the whole text

-- rules of which the last is any
last_bytes : (rules : List MappingRule) (rest : List ℕ) (head : RuleHead) (key prepend : List ℕ) (most : ℕ)
    → cost rules + 64 * bytes_of rest ≤ most
    → RuleThen rest record { head = head; key = key; prepend = prepend } []
    → image_length (rules ++ rules_of head key prepend) ≤ 512 + most
last_bytes rules rest (Typed kind scope) key prepend most front is =
    let all = image_most (rules ++ rules_of (Typed kind scope) key prepend) in
    let both = cost_append rules (rules_of (Typed kind scope) key prepend) in
    omega (arith, typed_bytes rest (Typed kind scope) key prepend [] is (λ e. cc), all, both)
last_bytes rules rest Map [] prepend most front is =
    let all = image_most (rules ++ rules_of Map [] prepend) in
    let client = sum_by-append (rule_worth sides.Client) rules (rules_of Map [] prepend) in
    let server = sum_by-append (rule_worth sides.Server) rules (rules_of Map [] prepend) in
    let both = cost_append rules (rules_of Map [] prepend) in
    omega (arith, rule_bytes rest record { head = Map; key = []; prepend = prepend } [] is, all, client, server, both)
last_bytes rules rest Map (c ∷ cs) prepend most front is =
    let fields = rule_bytes rest record { head = Map; key = c ∷ cs; prepend = prepend } [] is in
    let client = sum_by-append (rule_worth sides.Client) rules (rules_of Map (c ∷ cs) prepend) in
    let server = sum_by-append (rule_worth sides.Server) rules (rules_of Map (c ∷ cs) prepend) in
    let both = cost_append rules (rules_of Map (c ∷ cs) prepend) in
    omega (arith, fields, image_most (rules ++ rules_of Map (c ∷ cs) prepend), client, server, both)

pub image_enough : (text : List ℕ) (rules : List MappingRule) → IsUtf8 text → SaysRules (chars text) rules
    → image_length rules ≤ 512 + 64 * length text
image_enough text rules utf8 (written, says, are) =
    let front = rules_bytes (trimmed (chars text)) says.front says.rest says.before in
    let whole = last_bytes (expanded says.front) says.rest says.last.head says.last.key says.last.prepend
    (64 * bytes_of (trimmed (chars text))) front says.ends in
    let same = ap length (encodes-chars text utf8) in
    let is = ap image_length (are ∙ ap expanded says.are ∙ expanded_snoc says.front says.last) in
    omega (arith, whole, bytes_skipped (chars text), bytes_dropped (skip_leading_whitespace (chars text)), same, is)
