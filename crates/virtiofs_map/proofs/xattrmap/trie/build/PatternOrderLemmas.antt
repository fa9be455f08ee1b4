-- Patterns in order, what those have in common that stand between two, and the least of their answers.
use Rattle.std.proofs.Common.{◌≡◌, ◌≢◌, ◌⊎◌, ℕ, zero, suc, ◌<◌, ◌≤◌, List, length, take, get_or, min, inl, inr, refl}
use Rattle.std.proofs.Common.{sym, ap, subst, ◌∙◌, arith, add-one, take-take, get_or-take, rules}
use Rattle.std.proofs.lemmas.Bool.{cases_lt}
use Rattle.std.proofs.lemmas.List.{take_more_same, get_or_past}
use Rattle.virtiofs_map.specs.TrieBuildParts.{pattern_at, text, AreReady, IsLeast, IsReady}
use Rattle.virtiofs_map.specs.declared.xattrmap.trie.patterns.Pattern.{Pattern}

-- ---- fronts that are the same

-- rows that share a front share a shorter one
pub shorter : (one other : List ℕ) (m k : ℕ) → k ≤ m → take m one ≡ take m other → take k one ≡ take k other
shorter one other m k l e = sym (take-take k m one l) ∙ ap (take k) e ∙ take-take k m other l

-- and the byte there
pub same_byte : (one other : List ℕ) (m k : ℕ) → k < m → take m one ≡ take m other → get_or one k 0 ≡ get_or other k 0
same_byte one other m k l e = search (rules, get_or-take)

-- ---- patterns

module _ {most : ℕ} {patterns : List Pattern} (ready : AreReady most patterns) where
  -- the pattern at a place
  pub ready_at : (i : ℕ) → i < length patterns → IsReady most (pattern_at patterns i)
  ready_at i l = ready.each i _ l

  -- no pattern holds a zero
  pub no_zero : (i k : ℕ) → i < length patterns → k < length (text patterns i) → get_or (text patterns i) k 0 ≢ 0
  no_zero i k l m = (ready_at i l).full k 0 m

  pub small : (i k : ℕ) → i < length patterns → get_or (text patterns i) k 0 < 256
  small i k l = (ready_at i l).small k

  -- a pattern goes on where its byte is not zero
  pub goes_on : (i k : ℕ) → get_or (text patterns i) k 0 ≢ 0 → k < length (text patterns i)
  goes_on i k ne = search (rules, cases_lt, get_or_past)

  -- what two patterns share, all between them share
  pub between : (m i k j : ℕ) → i ≤ k → k ≤ j → j < length patterns → m ≤ length (text patterns i)
      → take m (text patterns i) ≡ take m (text patterns j)
      → (take m (text patterns k) ≡ take m (text patterns i)) × (m ≤ length (text patterns k))
  between zero i k j ik kj within long e = (refl, omega arith)
  between (suc m) i k j ik kj within long e =
      let less = shorter (text patterns i) (text patterns j) (suc m) m (omega arith) e in
      let front = between m i k j ik kj within (omega (arith, long)) less in
      let low = ready.rising i k m ik (omega (arith, kj, within)) (sym front.0) in
      let high = ready.rising k j m kj within (front.0 ∙ less) in
      let ends = same_byte (text patterns i) (text patterns j) (suc m) m (omega arith) e in
      let byte : get_or (text patterns k) m 0 ≡ get_or (text patterns i) m 0 = omega (arith, low, high, ends) in
      let full = no_zero i m (omega (arith, ik, kj, within)) (omega (arith, long)) in
      let more : m < length (text patterns k) = goes_on k m (λ z. full (sym byte ∙ z)) in
      let whole = take_more_same (text patterns k) (text patterns i) m 0 more (omega (arith, long)) front.0 byte in
      (subst (λ n. take n (text patterns k) ≡ take n (text patterns i)) (add-one m) whole, omega (arith, more))

-- ---- the least answer

-- one pattern more
pub IsLeast-more : (patterns : List Pattern) (chosen more : ℕ → Type 0) (at value next : ℕ)
    → IsLeast patterns chosen value → next ≡ min value (pattern_at patterns at).answer → ((i : ℕ) → chosen i → more i) → more at
    → ((i : ℕ) → more i → chosen i ⊎ (i ≡ at))
    → IsLeast patterns more next
IsLeast-more patterns chosen more at value next least e old new either = record {
  top = omega (arith, least.top);
  below = λ i m. elim (either i m) [
    | inl c ↦ omega (arith, least.below i c)
    | inr s ↦ omega (arith, ap (λ n. (pattern_at patterns n).answer) s)
  ];
  met = elim (cases_lt (pattern_at patterns at).answer value) [
    | inl b ↦ inr (at, new, omega arith)
    | inr g ↦ elim least.met [
      | inl none ↦ inl (omega arith)
      | inr (i, c, is) ↦ inr (i, old i c, omega (arith, is))
    ]
  ];
}

-- the same choice in other words
pub IsLeast-same : (patterns : List Pattern) (chosen other : ℕ → Type 0) (value : ℕ) → IsLeast patterns chosen value
    → ((i : ℕ) → chosen i → other i) → ((i : ℕ) → other i → chosen i) → IsLeast patterns other value
IsLeast-same patterns chosen other value least to from = search rules
