-- A text of rules has one reading and no fault; any other text has one fault.
use Rattle.std.proofs.Common.{◌≡◌, ◌≢◌, ℕ, ◌+◌, List, [], ◌∷◌, ◌++◌, length, ◌⊎◌, inl, inr, refl, sym, ap, subst, ◌∙◌}
use Rattle.std.proofs.Common.{rules, arith}
use Rattle.std.proofs.lemmas.Bool.{false≢true}
use Rattle.std.specs.List.{AllByRecursion}
use Rattle.virtiofs_map.specs.Rule.{MappingRule}
use Rattle.virtiofs_map.specs.RuleText.{Map, RuleAsWritten, RuleThen, RulesThen, RuleText, IsBlank, trimmed, expanded}
use Rattle.virtiofs_map.specs.RuleText.{SaysRules, CountsRules}
use Rattle.virtiofs_map.specs.RulesFault.{RuleFault, RulesFault, NoRules, InRule, NotOfText, IsFirstAtFault}
use Rattle.virtiofs_map.specs.RulesFault.{HasRulesFault}
use Rattle.virtiofs_map.specs.RuleParts.{BeginsWithFault, IsOpened}
use Rattle.virtiofs_map.proofs.RuleFieldLemmas.{empty_is_not_opened}
use Rattle.virtiofs_map.proofs.ReadSoFarLemmas.{nothing_after}
use Rattle.virtiofs_map.proofs.RuleReadingLemmas.{rule_again, rule_and_fault, fault_again}

-- what stands at the end of the reading: a last rule, or a fault
abbrev pub Ending : List ℕ → Type 0
Ending text = ((last : RuleAsWritten) × RuleThen text last []) ⊎ ((cause : RuleFault) × BeginsWithFault text cause)

rule_opened : (text : List ℕ) (rule : RuleAsWritten) (after : List ℕ) → RuleThen text rule after → IsOpened text
rule_opened text rule after here = (here.delimiter, here.body, here.opens)

ending_opened : (text : List ℕ) → Ending text → IsOpened text
ending_opened text e = grind (arith, rule_opened)

rules_opened : (text : List ℕ) (rules : List RuleAsWritten) (rest : List ℕ) → RulesThen text rules rest → IsOpened rest
    → IsOpened text
rules_opened text [] rest e opened = subst IsOpened (sym e) opened
rules_opened text (rule ∷ rules) rest (blanks, next, here, plain, blank, others) opened = grind arith

same_next : (one two x y : List ℕ) → one ++ x ≡ two ++ y → AllByRecursion IsBlank one → AllByRecursion IsBlank two
    → IsOpened x → IsOpened y → x ≡ y
same_next [] [] x y e blank_one blank_two open_x open_y = e
same_next [] (b ∷ two) x y e blank_one blank_two open_x open_y = grind (arith, false≢true)
same_next (a ∷ one) [] x y e blank_one blank_two open_x open_y = grind (arith, false≢true)
same_next (a ∷ one) (b ∷ two) x y e blank_one blank_two open_x open_y =
    same_next one two x y (cc) blank_one.1 blank_two.1 open_x open_y

-- where the reading ends no further rule stands in front of another
not_over : (text : List ℕ) (rule : RuleAsWritten) (blanks next : List ℕ) → Ending text
    → RuleThen text rule (blanks ++ next) → rule.head ≢ Map → IsOpened next → ⊥
not_over text rule blanks next (inl (last, whole)) here plain opened =
    let none : next ≡ [] =
    nothing_after blanks next (sym (rule_again text last rule [] (blanks ++ next) whole here).1) in
    empty_is_not_opened (subst IsOpened none opened)
not_over text rule blanks next (inr (cause, fault)) here plain opened =
    plain (rule_and_fault text rule (blanks ++ next) cause here fault).0

-- two readings of one text meet
meets : (text : List ℕ) (one two : List RuleAsWritten) (x y : List ℕ) → RulesThen text one x → RulesThen text two y
    → Ending x → Ending y → (one ≡ two) × (x ≡ y)
meets text [] [] x y e f end_x end_y = (refl, sym e ∙ f)
meets text [] (rule ∷ two) x y e (blanks, next, here, plain, blank, others) end_x end_y =
    absurd (not_over text rule blanks next (subst Ending (sym e) end_x) here plain
    (rules_opened next two y others (ending_opened y end_y)))
meets text (rule ∷ one) [] x y (blanks, next, here, plain, blank, others) f end_x end_y =
    absurd (not_over text rule blanks next (subst Ending (sym f) end_y) here plain
    (rules_opened next one x others (ending_opened x end_x)))
meets text (rule ∷ one) (other ∷ two) x y (blanks, next, here, plain, blank, others)
    (spaces, later, there, simple, space, more) end_x end_y =
    let same_rule = rule_again text rule other (blanks ++ next) (spaces ++ later) here there in
    let same_rest =
    same_next blanks spaces next later same_rule.1 blank space
    (rules_opened next one x others (ending_opened x end_x))
    (rules_opened later two y more (ending_opened y end_y)) in
    let rest = meets next one two x y others (subst (λ t. RulesThen t two y) (sym same_rest) more) end_x end_y in
    (ap (λ r. r ∷ one) same_rule.0 ∙ ap (λ rs. other ∷ rs) rest.0, rest.1)

-- ---- the laws

pub one_reading : (text : List ℕ) (a b : List RuleAsWritten) → RuleText text a → RuleText text b → a ≡ b
one_reading text a b one two =
    let met =
    meets (trimmed text) one.front two.front one.rest two.rest one.before two.before (inl (one.last, one.ends))
    (inl (two.last, two.ends)) in
    let last =
    rule_again two.rest one.last two.last [] [] (subst (λ t. RuleThen t one.last []) met.1 one.ends) two.ends in
    one.are ∙ ap (λ f. f ++ one.last ∷ []) met.0 ∙ ap (λ r. two.front ++ r ∷ []) last.0 ∙ sym two.are

pub one_value : (text : List ℕ) (a b : List MappingRule) → SaysRules text a → SaysRules text b → a ≡ b
one_value text a b (written, one, are) (other, two, same) = are ∙ ap expanded (one_reading text written other one two)
    ∙ sym same

-- and are that many rules
pub one_count : (text : List ℕ) (a b : ℕ) → CountsRules text a → CountsRules text b → a ≡ b
one_count text a b (written, read, are) (other, read_too, are_too) = are
    ∙ ap length (one_reading text written other read read_too) ∙ sym are_too

not_at_fault : (text : List ℕ) (written : List RuleAsWritten) (k : ℕ) (cause : RuleFault) → RuleText text written
    → IsFirstAtFault text k cause → ⊥
not_at_fault text written k cause one two =
    let fault : BeginsWithFault two.rest cause = (two.delimiter, two.body, two.opens, two.wrong) in
    let met =
    meets (trimmed text) one.front two.front one.rest two.rest one.before two.before (inl (one.last, one.ends))
    (inr (cause, fault)) in
    (rule_and_fault two.rest one.last [] cause (subst (λ t. RuleThen t one.last []) met.1 one.ends) fault).1 refl

pub no_fault : (text : List ℕ) (rules : List MappingRule) (fault : RulesFault) → SaysRules text rules
    → HasRulesFault text fault → ⊥
no_fault text rules NoRules (written, one, are) nothing = grind (arith, empty_is_not_opened, rules_opened, rule_opened)
no_fault text rules (InRule k cause) (written, one, are) wrong = not_at_fault text written k cause one wrong
no_fault text rules NotOfText says wrong = wrong

pub no_fault_counted : (text : List ℕ) (count : ℕ) (fault : RulesFault) → CountsRules text count
    → HasRulesFault text fault → ⊥
no_fault_counted text count fault (written, read, are) wrong =
    no_fault text (expanded written) fault (written, read, refl) wrong

not_empty : (text : List ℕ) (k : ℕ) (cause : RuleFault) → IsFirstAtFault text k cause → trimmed text ≡ [] → ⊥
not_empty text k cause one nothing = search (rules, empty_is_not_opened, rules_opened)

same_place : (text : List ℕ) (j k : ℕ) (one two : RuleFault) → IsFirstAtFault text j one → IsFirstAtFault text k two
    → InRule j one ≡ InRule k two
same_place text j k one two first later =
    let here : BeginsWithFault first.rest one = (first.delimiter, first.body, first.opens, first.wrong) in
    let there : BeginsWithFault later.rest two = (later.delimiter, later.body, later.opens, later.wrong) in
    let met =
    meets (trimmed text) first.front later.front first.rest later.rest first.before later.before (inr (one, here))
    (inr (two, there)) in
    let number : j ≡ k = first.number ∙ ap (λ f. length f + 1) met.0 ∙ sym later.number in
    let same : one ≡ two = fault_again later.rest one two (subst (λ t. BeginsWithFault t one) met.1 here) there in
    ap (λ n. InRule n one) number ∙ ap (InRule k) same

pub one_fault : (text : List ℕ) (one two : RulesFault) → HasRulesFault text one → HasRulesFault text two → one ≡ two
one_fault text one two nothing too = grind (arith, not_empty, same_place)
