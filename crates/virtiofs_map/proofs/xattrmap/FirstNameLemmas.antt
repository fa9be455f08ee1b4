-- Where the first name of a list ends, and what the rules find along a list.
use Rattle.std.proofs.Common.{◌≡◌, ◌≢◌, ℕ, zero, suc, ◌+◌, ◌≤◌, ◌&&◌, not, cond, eqb, List, [], ◌∷◌, ◌++◌, length}
use Rattle.std.proofs.Common.{get_or, take, drop, All, inl, inr, refl, sym, ap, ◌∙◌, arith}
use Rattle.std.specs.List.{position_or_len, before_first, after_first}
use Rattle.std.proofs.lemmas.Bool.{and_left, cases_Bool, cases_lt, eqb-true, ne_eqb}
use Rattle.std.proofs.lemmas.List.{length-drop, take_all}
use Rattle.std.proofs.lemmas.List.Elements.{All-contains, All-head, All-tail}
use Rattle.std.proofs.lemmas.List.Sums.{passes_at_first, split_at_first}
use Rattle.virtiofs_map.specs.NodeParts.{answer_for, answer_of}
use Rattle.virtiofs_map.specs.FirstRule.{acts, pattern}
use Rattle.virtiofs_map.specs.Names.{begins, first}
use Rattle.virtiofs_map.specs.Rule.{MappingRule, HasNoZero}
use Rattle.virtiofs_map.specs.declared.xattrmap.scopes.Side.{Side}
use Rattle.virtiofs_map.proofs.xattrmap.FittingLemmas.{fits_is, same_first}
use Rattle.virtiofs_map.proofs.ServerListLemmas.{is_zero}
use Rattle.virtiofs_map.proofs.xattrmap.PathLemmas.{pattern_no_zero}

-- ---- a name, and a zero after it

-- a pattern without a zero does not reach beyond one
pub begins_upto_zero : (p name more : List ℕ) → All (λ byte. byte ≢ 0) p → begins p (name ++ 0 ∷ more) ≡ begins p name
begins_upto_zero [] name more no_zero = refl
begins_upto_zero (x ∷ p) [] more no_zero = grind (arith, cases_Bool, All-head, eqb-true, and_left)
begins_upto_zero (x ∷ p) (y ∷ name) more no_zero =
    ap (λ b. eqb x y && b) (begins_upto_zero p name more (All-tail (λ byte. byte ≢ 0) x p no_zero))

module _ (side : Side) (rules : List MappingRule) (name more : List ℕ) (plain : All HasNoZero rules) where
  -- so the rules fit what goes on after a zero as they fit what stands before it
  pub first_upto_zero : first side rules (name ++ 0 ∷ more) ≡ first side rules name
  first_upto_zero = same_first side rules (name ++ 0 ∷ more) name (λ rule inside.
      (fits_is side (name ++ 0 ∷ more) rule
      ∙ ap (λ b. acts side rule && b)
      (begins_upto_zero (pattern side rule) name more
      (pattern_no_zero side rule (All-contains HasNoZero rules rule plain inside)))
      ∙ sym (fits_is side name rule)))

-- ---- the first name of a list

-- so the first rule that fits a list is the first that fits its first name
pub first_of_list : (side : Side) (rules : List MappingRule) (list : List ℕ) → All HasNoZero rules
    → first side rules list ≡ first side rules (before_first is_zero list)
first_of_list side rules list plain = elim (cases_lt (position_or_len is_zero list) (length list)) [
  | inl l ↦
      (let name = before_first is_zero list in
      let more = after_first is_zero list in
      let ended : get_or list (position_or_len is_zero list) 0 ≡ 0 =
      grind (arith, eqb-true, is_zero, passes_at_first) in
      let split : list ≡ name ++ 0 ∷ more = split_at_first is_zero list 0 l ∙ ap (λ n. name ++ n ∷ more) ended in
      ap (first side rules) split ∙ first_upto_zero side rules name more plain)
  | inr l ↦ search take_all
]

pub answer_of_list : (side : Side) (rules : List MappingRule) (list : List ℕ) → All HasNoZero rules
    → answer_of side rules list ≡ answer_of side rules (before_first is_zero list)
answer_of_list side rules list plain = ap (answer_for rules) (first_of_list side rules list plain)

-- ---- where it ends

-- the first zero stands behind bytes that are none
pub zero_behind : (list : List ℕ) (passed : ℕ) → passed ≤ length list → All (λ byte. byte ≢ 0) (take passed list)
    → position_or_len is_zero list ≡ passed + position_or_len is_zero (drop passed list)
zero_behind list zero within none = omega arith
zero_behind [] (suc passed) within none = absurd (omega arith)
zero_behind (x ∷ list) (suc passed) within none =
    ap (λ b. cond (not b) (1 + position_or_len is_zero list) 0)
    (ne_eqb x 0 (All-head (λ byte. byte ≢ 0) x (take passed list) none))
    ∙ (let rest = All-tail (λ byte. byte ≢ 0) x (take passed list) none in
    omega (arith, zero_behind list passed (omega arith) rest))

module _ (list : List ℕ) (passed : ℕ) (within : passed ≤ length list)
    (none : All (λ byte. byte ≢ 0) (take passed list)) where
  pub zero_at : (further : ℕ) → further ≡ position_or_len is_zero (drop passed list)
      → passed + further ≡ position_or_len is_zero list
  zero_at further there = omega (arith, zero_behind list passed within none)

  pub no_zero_left : length (drop passed list) ≤ position_or_len is_zero (drop passed list)
      → length list ≤ position_or_len is_zero list
  no_zero_left past = omega (arith, zero_behind list passed within none, within, length-drop passed list)
