-- The test of equality of rules tells equality, place by place.
use Rattle.std.proofs.Common.{◌≡◌, ℕ, ◌+◌, ◌≤◌, Bool, true, false, Decides, List, [], ◌∷◌, ◌++◌, length, take, get_or}
use Rattle.std.proofs.Common.{Some, sym, ap, ◌∙◌, arith, slice_get, take_all, rules}
use Rattle.std.proofs.lemmas.Bool.Decides.{Decides-eqb, Decides-and}
use Rattle.std.proofs.lemmas.List.{take_more}
use Rattle.std.proofs.lemmas.Option.{same_Some, slice_get_within, get_or_from_slice_get}
use Rattle.std.proofs.lemmas.Slice.Eq.{slice_eq-Decides}
use Rattle.virtiofs_map.specs.Rule.{MappingRule, same_rule, same_rules}
use Rattle.virtiofs_map.proofs.RuleRowLemmas.{same_type, same_rule_fields}

pub same_rule-Decides : (a b : MappingRule) → Decides (same_rule a b) (a ≡ b)
same_rule-Decides a b = search (rules, Decides-and, Decides-eqb, same_rule_fields, same_type)

pub same_rules-Decides : (a b : List MappingRule) (r : Bool) → r ≡ same_rules a b → Decides r (a ≡ b)
same_rules-Decides a b r e = slice_eq-Decides same_rule-Decides a b r e

module _ (one other : List MappingRule) (place : ℕ) (x y : MappingRule) (here : Some x ≡ slice_get one place)
    (there : Some y ≡ slice_get other place) where
  -- rules that differ at a place
  pub differ_at : (r : Bool) → r ≡ false → r ≡ same_rule x y → false ≡ same_rules one other
  differ_at r fails is = grind (arith, same_rules-Decides, same_rule-Decides, same_Some)

  -- one place more where they are the same
  pub same_more : (r : Bool) → r ≡ true → r ≡ same_rule x y → take place one ≡ take place other
      → take (place + 1) one ≡ take (place + 1) other
  same_more r holds is so_far =
      let same : x ≡ y = (same_rule-Decides x y).0 (sym is ∙ holds) in
      take_more one place x (slice_get_within one place x (sym here))
      ∙ ap (λ rule. take place one ++ rule ∷ [])
      (get_or_from_slice_get one place x x (sym here) ∙ same ∙ sym (get_or_from_slice_get other place y y (sym there)))
      ∙ ap (λ rules. rules ++ get_or other place y ∷ []) so_far
      ∙ sym (take_more other place y (slice_get_within other place y (sym there)))

-- and no more places
pub same_all : (one other : List MappingRule) (place : ℕ) → length one ≤ place → length other ≡ length one
    → take place one ≡ take place other → true ≡ same_rules one other
same_all one other place past long so_far = search (rules, take_all, same_rules-Decides)
