-- The patterns of a side, gathered rule by rule, and in any order.
use Rattle.std.proofs.Common.{◌≡◌, ◌≢◌, ℕ, zero, suc, ◌+◌, ◌*◌, ◌<◌, ◌≤◌, true, false, List, [], ◌∷◌, ◌++◌}
use Rattle.std.proofs.Common.{append-nil, cond, filter, map, take, get_or, Some, inl, inr, sym, ap, subst, ◌∙◌, eq-eqb, arith, All}
use Rattle.std.proofs.Common.{slice_get, IsPermutation, nat_cmp, is_lt, true≢false, lt-ltb, rules}
use Rattle.std.specs.Cmp.Lexicographic.{slice_cmp}
use Rattle.std.specs.Ordering.{ordering_then}
use Rattle.std.specs.declared.cmp.Ordering.{Ordering}
use Rattle.std.proofs.lemmas.Bool.{cases_lt}
use Rattle.std.proofs.lemmas.Bool.Decides.{nat_tests}
use Rattle.std.proofs.lemmas.List.Sorted.{All-permutation, Contains-permutation, IsPermutation-append_left, IsPermutation-map}
use Rattle.std.proofs.lemmas.List.Sorted.{IsPermutation-trans}
use Rattle.std.proofs.lemmas.List.Elements.{All-contains, All-push, Contains-append_left, Contains-push, filter-append}
use Rattle.std.proofs.lemmas.List.{map-append, take_all, take_more}
use Rattle.std.proofs.lemmas.Option.{same_Some, slice_get_cases, slice_get_within, get_or_from_slice_get}
use Rattle.virtiofs_map.specs.NodeParts.{IsPatternAt, ArePatterns, patterns_on}
use Rattle.virtiofs_map.specs.FirstRule.{acts, pattern}
use Rattle.virtiofs_map.specs.Rule.{HasNoZero, MappingRule, type_number}
use Rattle.virtiofs_map.specs.declared.xattrmap.trie.patterns.Pattern.{Pattern}
use Rattle.virtiofs_map.specs.declared.xattrmap.scopes.Side.{Side}
use Rattle.virtiofs_map.proofs.xattrmap.PathLemmas.{pattern_no_zero}

-- the pattern of a rule has no zero where the rules have none
pub no_zero_at : (side : Side) (rules : List MappingRule) (place : ℕ) (rule : MappingRule)
    → slice_get rules place ≡ Some rule → All HasNoZero rules → All (λ byte. byte ≢ 0) (pattern side rule)
no_zero_at side rules place rule here plain =
    pattern_no_zero side rule (All-contains HasNoZero rules rule plain (search (slice_get_within, get_or_from_slice_get)))

-- what names are compared with, with one rule more
texts_more : (side : Side) (rules : List MappingRule) (place : ℕ) (rule : MappingRule)
    → slice_get rules place ≡ Some rule
    → patterns_on side (take (place + 1) rules)
    ≡ patterns_on side (take place rules) ++ map (pattern side) (cond (acts side rule) (rule ∷ []) [])
texts_more side rules place rule here =
    let inside = slice_get_within rules place rule here in
    ap (patterns_on side)
    (take_more rules place rule inside
    ∙ ap (λ one. take place rules ++ one ∷ []) (get_or_from_slice_get rules place rule rule here))
    ∙ ap (map (pattern side)) (filter-append (acts side) (take place rules) (rule ∷ []))
    ∙ map-append (pattern side) (filter (acts side) (take place rules)) (filter (acts side) (rule ∷ []))

-- the rule at the place has a pattern
pub patterns_more : (side : Side) (rules : List MappingRule) (bytes : List ℕ) (place : ℕ) (patterns : List Pattern)
    (one : Pattern)
    → ArePatterns side rules bytes place patterns → IsPatternAt side rules bytes place one
    → ArePatterns side rules bytes (place + 1) (patterns ++ one ∷ [])
patterns_more side rules bytes place patterns one below is = record {
  texts =
      let all : patterns_on side (take (place + 1) rules) ≡ patterns_on side (take place rules) ++ one.bytes.now ∷ [] =
      texts_more side rules place is.rule is.here
      ∙ ap (λ b. patterns_on side (take place rules) ++ map (pattern side) (cond b (is.rule ∷ []) [])) is.acting
      ∙ ap (λ text. patterns_on side (take place rules) ++ text ∷ []) (sym is.are) in
      subst (λ texts. IsPermutation texts (map (λ (p : Pattern). p.bytes.now) (patterns ++ one ∷ []))) (sym all)
      (subst (IsPermutation (patterns_on side (take place rules) ++ one.bytes.now ∷ []))
      (sym (map-append (λ (p : Pattern). p.bytes.now) patterns (one ∷ [])))
      (IsPermutation-append_left (one.bytes.now ∷ []) _ _ below.texts));
  each = search All-push;
  every = λ at rule before here acting. elim (cases_lt at place) [
    | inl earlier ↦
        grind (arith, Contains-append_left)
    | inr later ↦
        (let now : at ≡ place = omega arith in
        let rule_is : is.rule ≡ rule = same_Some _ _ (sym is.here ∙ ap (slice_get rules) (sym now) ∙ here) in (
          one,
          Contains-push patterns one,
          is.are ∙ ap (pattern side) rule_is,
          is.stands_for
              ∙ ap (λ n. 4 * n + type_number is.rule.kind) (sym now)
              ∙ ap (λ (r : MappingRule). 4 * at + type_number r.kind) rule_is,
        ))
  ];
}

-- it has none
pub patterns_same : (side : Side) (rules : List MappingRule) (bytes : List ℕ) (place : ℕ) (patterns : List Pattern)
    → ArePatterns side rules bytes place patterns
    → ((rule : MappingRule) → slice_get rules place ≡ Some rule → acts side rule ≡ false)
    → ArePatterns side rules bytes (place + 1) patterns
patterns_same side rules bytes place patterns below none = record {
  texts = subst (λ texts. IsPermutation texts (map (λ (p : Pattern). p.bytes.now) patterns)) (elim (slice_get_cases rules place).1 [
    | inr (past, _) ↦
        ap (patterns_on side) (take_all place rules past ∙ sym (take_all (place + 1) rules (omega arith)))
    | inl (rule, _, here, _) ↦ sym (
        texts_more side rules place rule here
        ∙ ap (λ b. patterns_on side (take place rules) ++ map (pattern side) (cond b (rule ∷ []) [])) (none rule here)
        ∙ append-nil (patterns_on side (take place rules)))
  ]) below.texts;
  each = below.each;
  every = grind (arith, cases_lt, true≢false, slice_get);
}

-- in any order they are the patterns
pub patterns-permutation : (side : Side) (rules : List MappingRule) (bytes : List ℕ) (end : ℕ)
    (patterns others : List Pattern)
    → IsPermutation patterns others → ArePatterns side rules bytes end patterns → ArePatterns side rules bytes end others
patterns-permutation side rules bytes end patterns others moved are = record {
  texts = IsPermutation-trans (patterns_on side (take end rules)) _ _ are.texts
      (IsPermutation-map (λ (p : Pattern). p.bytes.now) patterns others moved);
  each = search All-permutation;
  every = λ at rule before here acting.
      let (one, stored, same, answer) = are.every at rule before here acting in
      (one, Contains-permutation patterns others one moved stored, same, answer);
}

-- ---- the order of bytes

-- a lesser byte decides
pub less : (y x : ℕ) (rest : Ordering) → y < x → is_lt (ordering_then (nat_cmp y x) rest) ≡ true
less y x rest below = search (rules, lt-ltb, is_lt, true≢false)

-- the same byte leaves it to the rest
pub level : (y : ℕ) (rest : Ordering) → is_lt (ordering_then (nat_cmp y y) rest) ≡ is_lt rest
level y rest = search (rules, eq-eqb, nat_tests, is_lt, true≢false)

-- the bytes of one pattern do not come after those of another: where they share a front, nor does its next byte
pub later_byte : (one other : List ℕ) (depth : ℕ) → take depth one ≡ take depth other
    → is_lt (slice_cmp nat_cmp other one) ≡ false
    → get_or one depth 0 ≤ get_or other depth 0
later_byte [] other depth same order = omega arith
later_byte (x ∷ one) [] zero same order = absurd (true≢false order)
later_byte (x ∷ one) [] (suc depth) same order = absurd (cc)
later_byte (x ∷ one) (y ∷ other) zero same order = grind arith
later_byte (x ∷ one) (y ∷ other) (suc depth) same order = grind (arith, later_byte one other depth)
