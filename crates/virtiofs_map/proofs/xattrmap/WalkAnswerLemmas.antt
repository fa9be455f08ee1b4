-- What the answer of a walk says of the first rule that fits.
use Rattle.std.proofs.Common.{◌≡◌, ◌≢◌, ℕ, ◌+◌, ◌*◌, ◌/◌, ◌%◌, ◌<◌, List, length, Some, None, sym, ap, ◌∙◌, arith}
use Rattle.std.proofs.Common.{slice_get, option_and_then}
use Rattle.virtiofs_map.specs.NodeParts.{AreFew, answer_for, answer_of, no_answer, type_at}
use Rattle.virtiofs_map.specs.Names.{first, deciding}
use Rattle.virtiofs_map.specs.Rule.{MappingRule, Prefix, type_number}
use Rattle.virtiofs_map.specs.declared.xattrmap.scopes.Side.{Side}
use Rattle.virtiofs_map.proofs.RuleRowLemmas.{below_four, same_type, there}

-- ---- answers

-- the first rule that fits is one of the list
pub first_within : (side : Side) (rules : List MappingRule) (name : List ℕ) (at : ℕ) → first side rules name ≡ Some at
    → at < length rules
first_within side rules name at = grind arith

pub type_small : (rules : List MappingRule) (at : ℕ) → type_at rules at < 4
type_small rules at = grind (arith, slice_get, below_four)

module _ (side : Side) (rules : List MappingRule) (name : List ℕ) where
  -- the answer that stands for a rule
  pub answer_at : (at : ℕ) → first side rules name ≡ Some at → answer_of side rules name ≡ 4 * at + type_at rules at
  answer_at at e = ap (answer_for rules) e

  -- the answer that stands for no rule
  pub answer_none : AreFew rules → answer_of side rules name ≡ no_answer → first side rules name ≡ None
  answer_none few e = grind (arith, answer_at, first_within, type_small)

  -- another one stands for the rule at a quarter of it
  pub answer_some : answer_of side rules name ≢ no_answer → first side rules name ≡ Some (answer_of side rules name / 4)
  answer_some ne = grind (arith, answer_at, type_small)

  -- and what is left of it is the number of the type of the rule that decides
  pub answer_type : (rule : MappingRule) → deciding side rules name ≡ Some rule
      → type_number rule.kind ≡ answer_of side rules name % 4
  answer_type rule e = grind (arith, slice_get, answer_at, type_small)

-- ---- what a walk finds

-- a rule of type prefix decides, and stands at that place
pub record PrefixDecides (side : Side) (rules : List MappingRule) (name : List ℕ) (place : ℕ) : Type 0 where
  pub rule : MappingRule
  pub decides : deciding side rules name ≡ Some rule
  pub kind : rule.kind ≡ Prefix
  pub here : slice_get rules place ≡ Some rule

module _ (side : Side) (rules : List MappingRule) (name : List ℕ) (answer : ℕ) (few : AreFew rules)
    (answers : answer ≡ answer_of side rules name) where
  pub place_none : answer ≡ no_answer → first side rules name ≡ None
  place_none e = answer_none side rules name few (sym answers ∙ e)

  pub place_some : answer ≢ no_answer → first side rules name ≡ Some (answer / 4)
  place_some ne = answer_some side rules name (λ e. ne (answers ∙ e)) ∙ ap (λ n. Some (n / 4)) (sym answers)

  pub prefix_decides : answer % 4 ≡ 0 → PrefixDecides side rules name (answer / 4)
  prefix_decides e =
      let place = place_some (λ none. absurd (omega arith)) in
      let one = there rules (answer / 4) (first_within side rules name (answer / 4) place) in
      let decides : deciding side rules name ≡ Some one.0 = ap (option_and_then (slice_get rules)) place ∙ one.1 in
      record {
        rule = one.0;
        decides = decides;
        kind = grind (arith, same_type, answer_type);
        here = one.1;
      }
