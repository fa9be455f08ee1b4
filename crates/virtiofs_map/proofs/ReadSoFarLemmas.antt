-- What is known of a text of rules of which a front was read.
use Rattle.std.proofs.Common.{◌≡◌, ◌≢◌, ℕ, ◌+◌, ◌<◌, List, [], ◌∷◌, ◌++◌, length, Option, Some}
use Rattle.std.proofs.Common.{None, IsSomeAnd, ◌⊎◌, inl, inr, refl, sym, ap, subst, ◌∙◌, arith, append_assoc}
use Rattle.std.proofs.Common.{length-append, append-nil, rules}
use Rattle.std.proofs.lemmas.List.{nil_from_length}
use Rattle.std.proofs.lemmas.Grind.{flat_map-append}
use Rattle.std.specs.List.{AllByRecursion}
use Rattle.std.specs.Option.{option_map_or}
use Rattle.std.specs.Str.{drop_trailing_whitespace}
use Rattle.virtiofs_map.specs.Rule.{MappingRule}
use Rattle.virtiofs_map.specs.RuleText.{RuleHead, Typed, Map, RuleAsWritten, Fields, RuleThen, RulesThen, RuleText}
use Rattle.virtiofs_map.specs.RuleText.{IsBlank, trimmed, rules_of, expanded, SaysRules, CountsRules}
use Rattle.virtiofs_map.specs.Refusal.{OutOfMemoryOr}
use Rattle.virtiofs_map.specs.RulesFault.{RuleFault, InRule, NotOfText, HasRulesFault, rule_fault_of, rules_fault_of}
use Rattle.virtiofs_map.specs.RuleParts.{IsOpened, BeginsWithFault}
use Rattle.virtiofs_map.specs.declared.xattrmap.errors.ErrorKind.{ErrorKind}
use Rattle.virtiofs_map.specs.declared.xattrmap.errors.ErrorKind.TheVariants.{OutOfMemory}
use Rattle.virtiofs_map.proofs.TrimLemmas.{trimmed_opened, trimmed_solid, solid_back, solid_blanks, Skips}

-- rest is what follows some front of the text
pub record EndsWith (text rest : List ℕ) : Type 0 where
  pub front : List ℕ
  pub are : text ≡ front ++ rest

fields_end : (d : ℕ) (text : List ℕ) (fields : List (List ℕ)) (rest : List ℕ) → Fields d text fields rest
    → EndsWith text rest
fields_end d text [] rest e = record { front = []; are = e }
fields_end d text (field ∷ fields) rest (after, spells, lacks, others) =
    let back = fields_end d after fields rest others in
    record {
      front = field ++ d ∷ back.front;
      are = grind (arith, append_assoc);
    }

pub rule_end : (text : List ℕ) (rule : RuleAsWritten) (after : List ℕ) → RuleThen text rule after
    → (d : ℕ) × (front : List ℕ) × (text ≡ d ∷ front ++ after)
rule_end text rule after whole = search (rules, fields_end)

-- a rule takes at least its delimiter
pub rule_shorter : (text : List ℕ) (rule : RuleAsWritten) (after : List ℕ) → RuleThen text rule after
    → length after < length text
rule_shorter text rule after whole = search (rules, rule_end, length-append)

-- ---- rules, one after another

rules_snoc : (text : List ℕ) (rules : List RuleAsWritten) (middle : List ℕ) (rule : RuleAsWritten)
    (blanks rest : List ℕ)
    → RulesThen text rules middle → RuleThen middle rule (blanks ++ rest) → rule.head ≢ Map
    → AllByRecursion IsBlank blanks → RulesThen text (rules ++ rule ∷ []) rest
rules_snoc text [] middle rule blanks rest e whole plain blank = grind arith
rules_snoc text (first ∷ rules) middle rule blanks rest (between, next, here, not_map, are_blank, others) whole plain
    blank =
    (search (rules_snoc next rules middle rule blanks rest others whole plain blank))

pub expanded_snoc : (rules : List RuleAsWritten) (rule : RuleAsWritten)
    → expanded (rules ++ rule ∷ []) ≡ expanded rules ++ rules_of rule.head rule.key rule.prepend
expanded_snoc rules rule = search (rules, flat_map-append, append-nil)

-- a text that is nothing but rules with blanks after each, and does not end in a blank, is a text of rules
text_of_rules : (text : List ℕ) (rules : List RuleAsWritten) → RulesThen text rules []
    → drop_trailing_whitespace text ≡ text
    → (rules ≡ [])
    ⊎ ((front : List RuleAsWritten) × (last : RuleAsWritten) × (rest : List ℕ) × (rules ≡ front ++ last ∷ [])
    × RulesThen text front rest × RuleThen rest last [])
text_of_rules text [] before solid = inl refl
text_of_rules text (rule ∷ rules) (blanks, next, here, plain, blank, others) solid =
    let (d, front, e) = rule_end text rule (blanks ++ next) here in
    let solid_after : drop_trailing_whitespace (blanks ++ next) ≡ blanks ++ next =
    grind (arith, solid_back) in
    let only : rules ≡ [] → next ≡ [] = λ none. subst (λ rs. RulesThen next rs []) none others in
    elim (text_of_rules next rules others (solid_back blanks next solid_after)) [
      | inl none ↦
          (let here_only : blanks ++ next ≡ blanks = ap (λ x. blanks ++ x) (only none) ∙ append-nil blanks in
          let no_blanks : blanks ≡ [] =
          grind (arith, solid_blanks) in
          inr (
            [],
            rule,
            text,
            ap (λ rs. rule ∷ rs) none,
            refl,
            subst (RuleThen text rule) (here_only ∙ no_blanks) here,
          ))
      | inr (init, last, rest, are, before, ends) ↦ inr
          (rule ∷ init, last, rest, ap (λ x. rule ∷ x) are, (blanks, next, here, plain, blank, before), ends)
    ]

-- ---- the state of the reader

-- only rules that are no map rules were read, and the rest is empty or begins with a rule's delimiter
pub record Going (text rest : List ℕ) (written : List RuleAsWritten) (items : List MappingRule) : Type 0 where
  pub before : RulesThen (trimmed text) written rest
  pub opened : (rest ≡ []) ⊎ IsOpened rest
  pub count : length items ≡ length written

-- that many rules were read, which stand for these
pub record ReadSoFar (text rest : List ℕ) (items : List MappingRule) (count : ℕ) : Type 0 where
  pub written : List RuleAsWritten
  pub are : items ≡ expanded written
  pub counted : count ≡ length written
  pub state : Going text rest written items ⊎ ((rest ≡ []) × RuleText text written)

pub start : (text rest : List ℕ) (items : List MappingRule) → rest ≡ trimmed text → items ≡ []
    → ReadSoFar text rest items 0
start text rest items e none = search (rules, trimmed_opened)

going : (text rest : List ℕ) (items : List MappingRule) (count : ℕ) (so_far : ReadSoFar text rest items count)
    → rest ≢ [] → Going text rest so_far.written items
going text rest items count so_far more = elim so_far.state [ inl state ↦ state | inr over ↦ absurd (more over.0) ]

pub opened : (text rest : List ℕ) (items : List MappingRule) (count : ℕ) → ReadSoFar text rest items count → rest ≢ []
    → IsOpened rest
opened text rest items count so_far more = grind (arith, going)

pub fault : (text rest : List ℕ) (items : List MappingRule) (count : ℕ) (cause : RuleFault) (k : ℕ)
    → ReadSoFar text rest items count → rest ≢ [] → BeginsWithFault rest cause → k ≡ length items + 1
    → HasRulesFault text (InRule k cause)
fault text rest items count cause k so_far more (d, body, opens, wrong) number =
    let state = going text rest items count so_far more in
    record {
      front = so_far.written;
      rest = rest;
      delimiter = d;
      body = body;
      number = number ∙ ap (λ n. n + 1) state.count;
      before = state.before;
      opens = opens;
      wrong = wrong;
    }

-- an error that tells a fault of the rule that is read, told with the number of that rule, tells a fault of the text
told_at : (text rest : List ℕ) (items : List MappingRule) (count k : ℕ) (told : Option RuleFault)
    → ReadSoFar text rest items count → rest ≢ [] → k ≡ length items + 1 → IsSomeAnd told (BeginsWithFault rest)
    → HasRulesFault text (option_map_or (InRule k) told NotOfText)
told_at text rest items count k None so_far more number none = absurd none
told_at text rest items count k (Some cause) so_far more number wrong = search (rules, fault)

pub refused_at : {A : Type 0} (text rest : List ℕ) (items : List MappingRule) (count k : ℕ) (cause : ErrorKind A)
    → ReadSoFar text rest items count → rest ≢ [] → k ≡ length items + 1
    → IsSomeAnd (rule_fault_of cause) (BeginsWithFault rest)
    → OutOfMemoryOr (rules_fault_of (record { cause = cause; rule = Some k })) (HasRulesFault text)
refused_at text rest items count k cause so_far more number wrong =
    told_at text rest items count k (rule_fault_of cause) so_far more number wrong

-- it does not tell out of memory
pub not_out_of_memory : {A : Type 0} (cause : ErrorKind A) (P : RuleFault → Type 0) → IsSomeAnd (rule_fault_of cause) P
    → cause ≢ OutOfMemory
not_out_of_memory cause P wrong e = subst (λ x. IsSomeAnd (rule_fault_of x) P) e wrong

pub nothing_after : {A : Type 0} (xs ys : List A) → xs ++ ys ≡ [] → ys ≡ []
nothing_after [] ys e = e
nothing_after (x ∷ xs) ys e = absurd (cc)

-- one more rule was read
pub step : (text rest : List ℕ) (items more_items : List MappingRule) (count number : ℕ) (rule : RuleAsWritten)
    (after next : List ℕ)
    → ReadSoFar text rest items count → number ≡ length items + 1 → rest ≢ [] → RuleThen rest rule after
    → (rule.head ≡ Map → after ≡ []) → Skips after next
    → more_items ≡ items ++ rules_of rule.head rule.key rule.prepend → ReadSoFar text next more_items number
step text rest items more_items count number rule after next so_far is_number more whole last skipped pushed = record {
  written = so_far.written ++ rule ∷ [];
  are = pushed ∙ ap (λ x. x ++ rules_of rule.head rule.key rule.prepend) so_far.are
      ∙ sym (expanded_snoc so_far.written rule);
  counted = omega (arith, state.count, length-append so_far.written (rule ∷ []));
  state = by rule.head refl;
} where
  state : Going text rest so_far.written items
  state = going text rest items count so_far more

  by : (head : RuleHead) → rule.head ≡ head → Going text next (so_far.written ++ rule ∷ []) more_items
      ⊎ ((next ≡ []) × RuleText text (so_far.written ++ rule ∷ []))
  by (Typed kind scope) is_head =
      (let one : length (rules_of rule.head rule.key rule.prepend) ≡ 1 = rw is_head refl in
      let plain : rule.head ≢ Map = λ e. (let f : Typed kind scope ≡ Map = sym is_head ∙ e in (cc)) in
      let items_size = length-append items (rules_of rule.head rule.key rule.prepend) in
      inl record {
        before = rules_snoc (trimmed text) so_far.written rest rule skipped.blanks next state.before
            (subst (RuleThen rest rule) skipped.spells whole) plain skipped.are_blank;
        opened = skipped.opened;
        count = omega (arith, ap length pushed, items_size, one, state.count, length-append so_far.written (rule ∷ []));
      })
  by Map is_head = inr (
    nothing_after skipped.blanks next (sym skipped.spells ∙ last is_head),
    record {
      front = so_far.written;
      last = rule;
      rest = rest;
      are = refl;
      before = state.before;
      ends = subst (RuleThen rest rule) (last is_head) whole;
    },
  )

-- ---- the end

-- the rest is empty, and some rules were read
pub finish : (text rest : List ℕ) (items : List MappingRule) (count : ℕ) → ReadSoFar text rest items count → rest ≡ []
    → count ≢ 0 → SaysRules text items × CountsRules text count
finish text rest items count so_far over some = search (rules, text_of_rules, trimmed_solid)

-- the rest is empty, and no rule was read
pub nothing : (text rest : List ℕ) (items : List MappingRule) (count : ℕ) → ReadSoFar text rest items count → rest ≡ []
    → count ≡ 0 → trimmed text ≡ []
nothing text rest items count so_far over none = grind (arith, nil_from_length, nothing_after)
