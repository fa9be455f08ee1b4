-- The order of patterns by the numbers of their first bytes is that of their bytes.
use Rattle.std.proofs.Common.{◌≡◌, ◌⊎◌, ℕ, ◌+◌, ◌-◌, ◌<◌, ◌≤◌, false, List, take, drop, get_or, inl, inr, sym}
use Rattle.std.proofs.Common.{ap, subst, ◌∙◌, arith, w64, All, IsSortedBy, nat_cmp, is_lt, get_or-take}
use Rattle.std.proofs.Common.{get_or-drop, take-take, rules}
use Rattle.std.specs.Cmp.Lexicographic.{slice_cmp, nat_list_cmp_total}
use Rattle.std.specs.Int.{from_be_bytes}
use Rattle.std.specs.Ordering.{ordering_then}
use Rattle.std.specs.declared.cmp.Ordering.{Ordering}
use Rattle.std.proofs.lemmas.Bool.{cases_lt}
use Rattle.std.proofs.lemmas.List.{drop-take}
use Rattle.std.proofs.lemmas.List.Sorted.{ranks_by, sorted_far}
use Rattle.virtiofs_map.specs.KeyedParts.{AreBytes, key_of, word_of}
use Rattle.virtiofs_map.specs.TrieBuildParts.{AreReady, IsReady, pattern_at}
use Rattle.virtiofs_map.specs.declared.xattrmap.trie.patterns.Pattern.{Pattern}
use Rattle.virtiofs_map.proofs.xattrmap.trie.PatternLemmas.{less, level, later_byte}

-- ---- one number

-- a byte of a front that two rows share
shared_byte : (d i : ℕ) (xs ys : List ℕ) → take d xs ≡ take d ys → i < d → get_or xs i 0 ≡ get_or ys i 0
shared_byte d i xs ys same below = search (rules, get_or-take)

same_word : (xs ys : List ℕ) → take 8 xs ≡ take 8 ys → word_of xs ≡ word_of ys
unfolding word_of
same_word xs ys same = search (rules, shared_byte)

-- its first eight bytes have the same number
pub front_word : (front bytes : List ℕ) → front ≡ take 8 bytes → from_be_bytes w64 front ≡ word_of bytes
unfolding word_of
front_word front bytes is = same_word front bytes (ap (take 8) is ∙ take-take 8 8 bytes (omega arith))

-- a lesser byte after a front that two rows share makes a lesser number
lesser_word : (d : ℕ) (xs ys : List ℕ) → d < 8 → AreBytes xs → take d xs ≡ take d ys
    → get_or xs d 0 < get_or ys d 0 → word_of xs < word_of ys
unfolding word_of
lesser_word d xs ys few bytes same lesser = grind (arith, shared_byte)

-- where the number of a row is not less, its byte after a shared front is not less, or all eight bytes are shared
word_step : (depth : ℕ) (xs ys : List ℕ) (rest : Ordering) → AreBytes ys → take depth xs ≡ take depth ys
    → is_lt (ordering_then (nat_cmp (word_of ys) (word_of xs)) rest) ≡ false
    → (get_or xs depth 0 ≤ get_or ys depth 0) ⊎ ((8 ≤ depth) × (is_lt rest ≡ false))
word_step depth xs ys rest bytes same order = elim (cases_lt depth 8) [
  | inl few ↦ inl (elim (cases_lt (get_or ys depth 0) (get_or xs depth 0)) [
    | inl lesser ↦ absurd (grind (arith, less, lesser_word))
    | inr above ↦ above
  ])
  | inr many ↦
      (let eight : take 8 xs ≡ take 8 ys =
      sym (take-take 8 depth xs many) ∙ ap (take 8) same ∙ take-take 8 depth ys many in
      let word : word_of xs ≡ word_of ys = same_word xs ys eight in
      let here : is_lt (ordering_then (nat_cmp (word_of ys) (word_of ys)) rest) ≡ false =
      grind (arith, is_lt, nat_cmp) in
      inr (many, sym (level (word_of ys) rest) ∙ here))
]

-- ---- two numbers, and then all bytes

bytes_after : (k : ℕ) (xs : List ℕ) → AreBytes xs → AreBytes (drop k xs)
bytes_after k xs bytes = λ i. omega (arith, get_or-drop k xs i 0, bytes (k + i))

later_key : (depth : ℕ) (xs ys : List ℕ) → AreBytes ys → take depth xs ≡ take depth ys
    → is_lt (ordering_then (nat_cmp (word_of ys) (word_of xs))
    (ordering_then (nat_cmp (word_of (drop 8 ys)) (word_of (drop 8 xs))) (slice_cmp nat_cmp ys xs))) ≡ false
    → get_or xs depth 0 ≤ get_or ys depth 0
later_key depth xs ys bytes same order =
    elim (word_step depth xs ys
    (ordering_then (nat_cmp (word_of (drop 8 ys)) (word_of (drop 8 xs))) (slice_cmp nat_cmp ys xs)) bytes same order) [
      | inl above ↦ above
      | inr (many, next) ↦
          (let more : depth ≡ 8 + (depth - 8) = omega (arith, many) in
          let rest : take (depth - 8) (drop 8 xs) ≡ take (depth - 8) (drop 8 ys) =
          sym (drop-take 8 (depth - 8) xs) ∙ ap (λ n. drop 8 (take n xs)) (sym more) ∙ ap (drop 8) same
          ∙ ap (λ n. drop 8 (take n ys)) more ∙ drop-take 8 (depth - 8) ys in
          elim (word_step (depth - 8) (drop 8 xs) (drop 8 ys) (slice_cmp nat_cmp ys xs) (bytes_after 8 ys bytes) rest next) [
            | inl above ↦ subst (λ (n : ℕ). get_or xs n 0 ≤ get_or ys n 0) (sym more)
                (omega (arith, get_or-drop 8 xs (depth - 8) 0, get_or-drop 8 ys (depth - 8) 0, above))
            | inr (far, last) ↦ later_byte xs ys depth same last
          ])
    ]

-- ---- patterns

later_keyed : (most depth : ℕ) (one other : Pattern) → IsReady most one → IsReady most other
    → take depth one.bytes.now ≡ take depth other.bytes.now
    → is_lt (slice_cmp nat_cmp (key_of other) (key_of one)) ≡ false
    → get_or one.bytes.now depth 0 ≤ get_or other.bytes.now depth 0
later_keyed most depth one other numbers numbers' same order = search (rules, is_lt, later_key)

-- patterns in the order of their keys are in the order of their bytes
pub AreReady-keyed : (most : ℕ) (patterns : List Pattern) → All (IsReady most) patterns
    → IsSortedBy (λ (a b : Pattern). is_lt (slice_cmp nat_cmp (key_of a) (key_of b))) patterns
    → AreReady most patterns
AreReady-keyed most patterns each sorted = record {
  each = each;
  rising = λ i j depth l within same.
      later_keyed most depth (pattern_at patterns i) (pattern_at patterns j) (each i _ (omega arith)) (each j _ within) same
      (sorted_far (λ (a b : Pattern). is_lt (slice_cmp nat_cmp (key_of a) (key_of b)))
      (ranks_by nat_list_cmp_total key_of) patterns sorted i j _ l within);
}
