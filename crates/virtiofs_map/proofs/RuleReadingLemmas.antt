-- A text has one reading: the rule or the fault that it begins with is found by reading it once, field by field.
use Rattle.std.proofs.Common.{◌≡◌, ◌≢◌, ℕ, Bool, true, false, cond, eqb, nat_eq, ◌||◌, List, [], ◌∷◌, ◌++◌, Contains}
use Rattle.std.proofs.Common.{Option, Some, None, Result, Ok, Err, codes, ◌⊎◌, inl, inr, refl, sym, ap, ◌∙◌}
use Rattle.std.proofs.Common.{append_assoc, arith, length, zero, suc, rules}
use Rattle.std.proofs.lemmas.Bool.Decides.{nat_tests}
use Rattle.std.proofs.lemmas.Slice.Eq.{slice_eq-Decides}
use Rattle.std.proofs.lemmas.List.Splits.{join_with_byte-slice_split, length-slice_split}
use Rattle.std.specs.List.{join_with_byte}
use lib.Pointwise.{pointwise}
use Rattle.std.proofs.lemmas.Bool.{false_from_ne_true}
use Rattle.virtiofs_map.proofs.ReadSoFarLemmas.{nothing_after}
use Rattle.virtiofs_map.proofs.SpecificationLemmas.{split_at_each-cut, split_at_each-last}
use Rattle.virtiofs_map.specs.Rule.{RuleType, Prefix, Okay, Bad, Unsupported}
use Rattle.virtiofs_map.specs.RuleText.{ScopeName, All, Client, Server, RuleHead, Typed, Map, RuleAsWritten, Fields}
use Rattle.virtiofs_map.specs.RuleText.{HasNoNul, RuleThen, rule_fields, head_fields, type_word, scope_word}
use Rattle.virtiofs_map.specs.RulesFault.{RuleFault, InvalidScope, InvalidType, IncompleteRule, MapRuleViolation}
use Rattle.virtiofs_map.specs.RulesFault.{NulInPattern, HasRuleFault}
use Rattle.virtiofs_map.specs.Separator.{Lacks, split_at_each}
use Rattle.virtiofs_map.specs.RuleParts.{BeginsWithFault}
use Rattle.virtiofs_map.specs.declared.xattrmap.errors.PatternField.{PatternField}
use Rattle.virtiofs_map.specs.declared.xattrmap.errors.PatternField.TheVariants.{Key, Prepend}

-- what stands between the delimiters of a text; the last part is not closed
abbrev Parts : Type 0
Parts = List (List ℕ)

abbrev Read : Type 0
Read = Result (RuleAsWritten × Parts) RuleFault

-- ---- reading once

has_nul : List ℕ → Bool
has_nul [] = false
has_nul (c ∷ cs) = eqb c 0 || has_nul cs

unless_nul : Bool → PatternField → Read → Read
unless_nul true which next = Err (NulInPattern which)
unless_nul false which next = next

last_pattern : RuleHead → List ℕ → Parts → Read
last_pattern head key (prepend ∷ part ∷ parts) =
    unless_nul (has_nul prepend) Prepend (Ok (record { head = head; key = key; prepend = prepend }, part ∷ parts))
last_pattern head key parts = Err IncompleteRule

patterns : RuleHead → Parts → Read
patterns head (key ∷ part ∷ parts) = unless_nul (has_nul key) Key (last_pattern head key (part ∷ parts))
patterns head parts = Err IncompleteRule

same : List ℕ → List ℕ → Bool
same = pointwise nat_eq

-- the type that a word names, or the word map
type_at : List ℕ → Option (Option RuleType)
type_at w =
    cond (same w (codes "prefix")) (Some (Some Prefix))
    (cond (same w (codes "ok")) (Some (Some Okay)) (cond (same w (codes "bad")) (Some (Some Bad))
    (cond (same w (codes "unsupported")) (Some (Some Unsupported)) (cond (same w (codes "map")) (Some None) None))))

scope_at : List ℕ → Option ScopeName
scope_at w =
    cond (same w (codes "all")) (Some All)
    (cond (same w (codes "client")) (Some Client) (cond (same w (codes "server")) (Some Server) None))

by_scope : RuleType → Option ScopeName → List ℕ → Parts → Read
by_scope kind (Some scope) w parts = patterns (Typed kind scope) parts
by_scope kind None w parts = Err (InvalidScope w (codes "all, client, server"))

scoped : RuleType → Parts → Read
scoped kind (w ∷ part ∷ parts) = by_scope kind (scope_at w) w (part ∷ parts)
scoped kind parts = Err IncompleteRule

by_type : Option (Option RuleType) → List ℕ → Parts → Read
by_type (Some (Some kind)) w parts = scoped kind parts
by_type (Some None) w parts = patterns Map parts
by_type None w parts = Err (InvalidType w (codes "prefix, ok, bad, map"))

reading : Parts → Read
reading (w ∷ part ∷ parts) = by_type (type_at w) w (part ∷ parts)
reading parts = Err IncompleteRule

-- ---- the parts of a text

some_part : (d : ℕ) (text : List ℕ) → split_at_each d text ≢ []
some_part d text none = absurd (omega (arith, length-slice_split (λ c. eqb c d) text, ap length none))

-- a text with the same parts is the same
same_text : (d : ℕ) (text other : List ℕ) → split_at_each d text ≡ split_at_each d other → text ≡ other
same_text d text other e =
    sym (join_with_byte-slice_split d text) ∙ ap (join_with_byte d) e ∙ join_with_byte-slice_split d other

fields_parts : (d : ℕ) (text : List ℕ) (fields : Parts) (rest : List ℕ) → Fields d text fields rest
    → split_at_each d text ≡ fields ++ split_at_each d rest
fields_parts d text [] rest e = ap (split_at_each d) e
fields_parts d text (field ∷ fields) rest (after, spells, lacks, others) =
    split_at_each-cut d text field after spells lacks
    ∙ ap (λ parts. field ∷ parts) (fields_parts d after fields rest others)

-- ---- what each step gives

no_nul_here : (s : List ℕ) → Lacks 0 s → has_nul s ≡ false
unfolding has_nul
no_nul_here [] lacks = refl
no_nul_here (c ∷ cs) lacks = grind (arith, no_nul_here cs lacks.1)

or_later : (a b : Bool) → b ≡ true → (a || b) ≡ true
or_later a b e = grind arith

nul_here : (s : List ℕ) → Contains s 0 → has_nul s ≡ true
unfolding has_nul
nul_here [] (k, short, e) = absurd (omega arith)
nul_here (c ∷ cs) (zero, short, e) = let f : eqb c 0 ≡ true = grind (arith, nat_tests, e) in rw f refl
nul_here (c ∷ cs) (suc k, short, e) = or_later (eqb c 0) (has_nul cs) (nul_here cs (k, omega arith, e))

type_at-word : (kind : RuleType) → type_at (type_word kind) ≡ Some (Some kind)
unfolding type_at same
type_at-word kind = grind arith

type_at-map : type_at (codes "map") ≡ Some None
unfolding type_at same
type_at-map = refl

scope_at-word : (word : ScopeName) → scope_at (scope_word word) ≡ Some word
unfolding scope_at same
scope_at-word word = grind arith

not_same : (s word : List ℕ) → s ≢ word → same s word ≡ false
unfolding same
not_same s word differ = search (rules, false_from_ne_true, slice_eq-Decides, pointwise)

type_at-none : (w : List ℕ) → ((kind : RuleType) → w ≢ type_word kind) → w ≢ codes "map" → type_at w ≡ None
unfolding type_at
type_at-none w no_type no_map =
    rw (
      not_same w (codes "prefix") (no_type Prefix),
      not_same w (codes "ok") (no_type Okay),
      not_same w (codes "bad") (no_type Bad),
      not_same w (codes "unsupported") (no_type Unsupported),
      not_same w (codes "map") no_map,
    ) refl

scope_at-none : (w : List ℕ) → ((word : ScopeName) → w ≢ scope_word word) → scope_at w ≡ None
unfolding scope_at
scope_at-none w no_scope =
    rw (
      not_same w (codes "all") (no_scope All),
      not_same w (codes "client") (no_scope Client),
      not_same w (codes "server") (no_scope Server),
    ) refl

reading_head : (head : RuleHead) (parts : Parts) → parts ≢ [] → reading (head_fields head ++ parts) ≡ patterns head parts
unfolding reading by_type scoped by_scope
reading_head head [] some = absurd (some refl)
reading_head (Typed kind scope) (part ∷ parts) some = rw (type_at-word kind, scope_at-word scope) refl
reading_head Map (part ∷ parts) some = rw type_at-map refl

-- behind the head of a rule
head_read : (d : ℕ) (text : List ℕ) (head : RuleHead) (more : Parts) (rest : List ℕ)
    → Fields d text (head_fields head ++ more) rest
    → reading (split_at_each d text) ≡ patterns head (more ++ split_at_each d rest)
head_read d text head more rest fields =
    ap reading (fields_parts d text (head_fields head ++ more) rest fields
    ∙ append_assoc (head_fields head) more (split_at_each d rest))
    ∙ reading_head head (more ++ split_at_each d rest)
    (λ e. some_part d rest (nothing_after more (split_at_each d rest) e))

patterns_whole : (head : RuleHead) (key prepend : List ℕ) (parts : Parts) → parts ≢ [] → Lacks 0 key → Lacks 0 prepend
    → patterns head (key ∷ prepend ∷ parts) ≡ Ok (record { head = head; key = key; prepend = prepend }, parts)
unfolding patterns last_pattern unless_nul
patterns_whole head key prepend [] some no_key no_prepend = absurd (some refl)
patterns_whole head key prepend (part ∷ parts) some no_key no_prepend =
    rw (no_nul_here key no_key, no_nul_here prepend no_prepend) refl

patterns_nul_key : (head : RuleHead) (key : List ℕ) (parts : Parts) → parts ≢ [] → Contains key 0
    → patterns head (key ∷ parts) ≡ Err (NulInPattern Key)
unfolding patterns unless_nul
patterns_nul_key head key [] some holds = absurd (some refl)
patterns_nul_key head key (part ∷ parts) some holds = rw (nul_here key holds) refl

patterns_nul_prepend : (head : RuleHead) (key prepend : List ℕ) (parts : Parts) → parts ≢ [] → Lacks 0 key
    → Contains prepend 0 → patterns head (key ∷ prepend ∷ parts) ≡ Err (NulInPattern Prepend)
unfolding patterns last_pattern unless_nul
patterns_nul_prepend head key prepend [] some no_nul holds = absurd (some refl)
patterns_nul_prepend head key prepend (part ∷ parts) some no_nul holds =
    rw (no_nul_here key no_nul, nul_here prepend holds) refl

reading_no_type : (got : List ℕ) (parts : Parts) → parts ≢ [] → ((kind : RuleType) → got ≢ type_word kind)
    → got ≢ codes "map" → reading (got ∷ parts) ≡ Err (InvalidType got (codes "prefix, ok, bad, map"))
unfolding reading by_type
reading_no_type got [] some no_type no_map = absurd (some refl)
reading_no_type got (part ∷ parts) some no_type no_map = rw (type_at-none got no_type no_map) refl

reading_no_scope : (kind : RuleType) (got : List ℕ) (parts : Parts) → parts ≢ []
    → ((word : ScopeName) → got ≢ scope_word word)
    → reading (type_word kind ∷ got ∷ parts) ≡ Err (InvalidScope got (codes "all, client, server"))
unfolding reading by_type scoped by_scope
reading_no_scope kind got [] some no_scope = absurd (some refl)
reading_no_scope kind got (part ∷ parts) some no_scope = rw (type_at-word kind, scope_at-none got no_scope) refl

-- ---- a rule, a rule that is not whole, a fault

reading_whole : (d : ℕ) (text : List ℕ) (rule : RuleAsWritten) (rest : List ℕ) → Fields d text (rule_fields rule) rest
    → HasNoNul rule → reading (split_at_each d text) ≡ Ok (rule, split_at_each d rest)
reading_whole d text rule rest fields no_nul =
    head_read d text rule.head (rule.key ∷ rule.prepend ∷ []) rest fields
    ∙ patterns_whole rule.head rule.key rule.prepend (split_at_each d rest) (some_part d rest) no_nul.0 no_nul.1

unfinished_patterns : (head : RuleHead) (key last : List ℕ) → Lacks 0 key
    → (patterns head (last ∷ []) ≡ Err IncompleteRule) × (patterns head (key ∷ last ∷ []) ≡ Err IncompleteRule)
unfolding patterns last_pattern unless_nul
unfinished_patterns head key last no_nul = (refl, rw (no_nul_here key no_nul) refl)

unfinished : (head : RuleHead) (key prepend : List ℕ) (fields missing : Parts) (last : List ℕ)
    → fields ++ missing ≡ head_fields head ++ key ∷ prepend ∷ [] → missing ≢ [] → Lacks 0 key
    → reading (fields ++ last ∷ []) ≡ Err IncompleteRule
unfolding reading by_type scoped
unfinished head key prepend [] missing last e more no_nul = refl
unfinished (Typed kind word) key prepend (a ∷ []) missing last e more no_nul =
    let first : a ≡ type_word kind = (cc) in rw (first, type_at-word kind) refl
unfinished (Typed kind word) key prepend (a ∷ b ∷ []) missing last e more no_nul =
    let both : a ∷ b ∷ [] ≡ head_fields (Typed kind word) = (cc) in
    ap (λ parts. reading (parts ++ last ∷ [])) both
    ∙ reading_head (Typed kind word) (last ∷ []) (λ f. cc) ∙ (unfinished_patterns (Typed kind word) key last no_nul).0
unfinished (Typed kind word) key prepend (a ∷ b ∷ c ∷ []) missing last e more no_nul =
    let three : a ∷ b ∷ c ∷ [] ≡ head_fields (Typed kind word) ++ key ∷ [] = (cc) in
    ap (λ parts. reading (parts ++ last ∷ [])) three
    ∙ reading_head (Typed kind word) (key ∷ last ∷ []) (λ f. cc)
    ∙ (unfinished_patterns (Typed kind word) key last no_nul).1
unfinished (Typed kind word) key prepend (a ∷ b ∷ c ∷ f ∷ others) missing last e more no_nul =
    let none : others ++ missing ≡ [] = (cc) in absurd (more (nothing_after others missing none))
unfinished Map key prepend (a ∷ []) missing last e more no_nul =
    let first : a ∷ [] ≡ head_fields Map = (cc) in
    ap (λ parts. reading (parts ++ last ∷ [])) first
    ∙ reading_head Map (last ∷ []) (λ f. cc) ∙ (unfinished_patterns Map key last no_nul).0
unfinished Map key prepend (a ∷ b ∷ []) missing last e more no_nul =
    let both : a ∷ b ∷ [] ≡ head_fields Map ++ key ∷ [] = (cc) in
    ap (λ parts. reading (parts ++ last ∷ [])) both
    ∙ reading_head Map (key ∷ last ∷ []) (λ f. cc) ∙ (unfinished_patterns Map key last no_nul).1
unfinished Map key prepend (a ∷ b ∷ c ∷ others) missing last e more no_nul =
    let none : others ++ missing ≡ [] = (cc) in absurd (more (nothing_after others missing none))

-- something follows a map rule
record Follows (d : ℕ) (text : List ℕ) (cause : RuleFault) : Type 0 where
  pub is : cause ≡ MapRuleViolation
  pub rule : RuleAsWritten
  pub rest : List ℕ
  pub reads : reading (split_at_each d text) ≡ Ok (rule, split_at_each d rest)
  pub last : rule.head ≡ Map
  pub more : rest ≢ []

reading_fault : (d : ℕ) (text : List ℕ) (cause : RuleFault) → HasRuleFault d text cause
    → (reading (split_at_each d text) ≡ Err cause) ⊎ Follows d text cause
reading_fault d text IncompleteRule (fields, rest, found, bad, lacks) =
    let parts : split_at_each d text ≡ fields ++ rest ∷ [] = fields_parts d text fields rest found
    ∙ ap (λ parts. fields ++ parts) (split_at_each-last d rest lacks) in
    inl (ap reading parts ∙ unfinished bad.rule.head bad.rule.key bad.rule.prepend fields bad.missing rest bad.are bad.more
    bad.no_nul.0)
reading_fault d text (InvalidType got expected) (rest, found, no_type, no_map, e) =
    inl (ap reading (fields_parts d text (got ∷ []) rest found)
    ∙ reading_no_type got (split_at_each d rest) (some_part d rest) no_type no_map
    ∙ ap (λ x. Err (InvalidType got x)) (sym e))
reading_fault d text (InvalidScope got expected) (kind, rest, found, no_scope, e) =
    inl (ap reading (fields_parts d text (type_word kind ∷ got ∷ []) rest found)
    ∙ reading_no_scope kind got (split_at_each d rest) (some_part d rest) no_scope
    ∙ ap (λ x. Err (InvalidScope got x)) (sym e))
reading_fault d text (NulInPattern Key) (head, key, rest, found, holds) =
    inl (head_read d text head (key ∷ []) rest found
    ∙ patterns_nul_key head key (split_at_each d rest) (some_part d rest) holds)
reading_fault d text (NulInPattern Prepend) (head, key, prepend, rest, found, no_nul, holds) =
    inl (head_read d text head (key ∷ prepend ∷ []) rest found
    ∙ patterns_nul_prepend head key prepend (split_at_each d rest) (some_part d rest) no_nul holds)
reading_fault d text MapRuleViolation (rule, rest, is_map, found, no_nul, some) = grind (arith, reading_whole)

-- ---- at one place of a text

same_reading : (text : List ℕ) (d e : ℕ) (body other : List ℕ) → text ≡ d ∷ body → text ≡ e ∷ other
    → reading (split_at_each d body) ≡ reading (split_at_each e other)
same_reading text d e body other f g =
    let delimiter : d ≡ e = (cc) in
    let same : body ≡ other = (cc) in
    rw (delimiter, same) refl

reads_rule : (text : List ℕ) (rule : RuleAsWritten) (after : List ℕ) (whole : RuleThen text rule after)
    → reading (split_at_each whole.delimiter whole.body) ≡ Ok (rule, split_at_each whole.delimiter after)
reads_rule text rule after whole = reading_whole whole.delimiter whole.body rule after whole.fields whole.no_nul

same_parts : (a b : RuleAsWritten) (p q : Parts) → ◌≡◌ {A = Read} (Ok (a, p)) (Ok (b, q)) → (a ≡ b) × (p ≡ q)
same_parts a b p q e = search rules

both_read : (d : ℕ) (a b : RuleAsWritten) (x y : List ℕ)
    → ◌≡◌ {A = Read} (Ok (a, split_at_each d x)) (Ok (b, split_at_each d y)) → (a ≡ b) × (x ≡ y)
both_read d a b x y e =
    let same = same_parts a b (split_at_each d x) (split_at_each d y) e in (same.0, same_text d x y same.1)

-- one rule stands there, and one text follows it
pub rule_again : (text : List ℕ) (a b : RuleAsWritten) (x y : List ℕ) → RuleThen text a x → RuleThen text b y
    → (a ≡ b) × (x ≡ y)
rule_again text a b x y one two =
    let delimiter : two.delimiter ≡ one.delimiter = (let e = sym two.opens.0 ∙ one.opens.0 in cc) in
    both_read one.delimiter a b x y
    (sym (reads_rule text a x one) ∙ same_reading text _ _ _ _ one.opens.0 two.opens.0 ∙ reads_rule text b y two
    ∙ ap (λ d. Ok (b, split_at_each d y)) delimiter)

-- where a rule stands, the only fault is that something follows a map rule
pub rule_and_fault : (text : List ℕ) (rule : RuleAsWritten) (after : List ℕ) (cause : RuleFault)
    → RuleThen text rule after → BeginsWithFault text cause → (rule.head ≡ Map) × (after ≢ [])
rule_and_fault text rule after cause whole (d, body, opens, wrong) =
    let delimiter : whole.delimiter ≡ d = (let e = sym whole.opens.0 ∙ opens.0 in cc) in
    let here : reading (split_at_each d body) ≡ Ok (rule, split_at_each d after) =
    same_reading text d whole.delimiter body whole.body opens.0 whole.opens.0 ∙ reads_rule text rule after whole
    ∙ ap (λ e. Ok (rule, split_at_each e after)) delimiter in
    elim (reading_fault d body cause wrong) [
      | inl e ↦ grind (arith, Read)
      | inr follows ↦
          (let same = both_read d follows.rule rule follows.rest after (sym follows.reads ∙ here) in
          (ap (λ r. r.head) (sym same.0) ∙ follows.last, λ none. follows.more (same.1 ∙ none)))
    ]

-- one fault is there
pub fault_again : (text : List ℕ) (one two : RuleFault) → BeginsWithFault text one → BeginsWithFault text two
    → one ≡ two
fault_again text one two (d, body, opens, wrong) (e, other, opened, bad) =
    let same_read : reading (split_at_each d body) ≡ reading (split_at_each e other) =
    same_reading text d e body other opens.0 opened.0 in
    elim (reading_fault d body one wrong) [
      | inl f ↦ elim (reading_fault e other two bad) [
        | inl g ↦ grind (arith, Read)
        | inr follows ↦ grind (arith, Read)
      ]
      | inr follows ↦ elim (reading_fault e other two bad) [
        | inl g ↦ grind (arith, Read)
        | inr later ↦ follows.is ∙ sym later.is
      ]
    ]
