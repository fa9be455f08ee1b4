-- The numbers of a range that pass a test, as they are met one after the other.
use Rattle.std.proofs.Common.{◌≡◌, ℕ, zero, suc, ◌+◌, ◌-◌, ◌<◌, ◌≤◌, Bool, true, false, cond, List, [], ◌∷◌, ◌++◌}
use Rattle.std.proofs.Common.{Some, refl, ap, ◌∙◌, arith, append-nil, inl, inr}
use Rattle.std.specs.List.{slice_get, filter, range_with_len}
use Rattle.std.proofs.lemmas.Bool.{cases_lt, cond_both, false_from_ne_true}
use Rattle.std.proofs.lemmas.List.Elements.{filter-append}
use Rattle.virtiofs_map.specs.PatternTrie.{last_byte}

-- a number is one of some
abbrev pub IsOne : List ℕ → ℕ → Type 0
IsOne xs x = (k : ℕ) × (slice_get xs k ≡ Some x)

-- a number in between that passes is among those that are left
pub filter_has : (p : ℕ → Bool) (low n x : ℕ) → low ≤ x → x < low + n → p x ≡ true
    → (k : ℕ) × (slice_get (filter p (range_with_len low n)) k ≡ Some x)
filter_has p low zero x from below passes = absurd (omega arith)
filter_has p low (suc n) x from below passes = elim (cases_lt low x) [
  | inl l ↦
      (let later = filter_has p (low + 1) n x (omega arith) (omega arith) passes in
      cond_both (p low) (low ∷ filter p (range_with_len (low + 1) n)) (filter p (range_with_len (low + 1) n))
      (λ xs. (k : ℕ) × (slice_get xs k ≡ Some x)) (λ _. (suc later.0, later.1)) (λ _. later))
  | inr g ↦
      grind arith
]

pub last_more : (first x : ℕ) (xs : List ℕ) → last_byte first (xs ++ x ∷ []) ≡ x
last_more first x [] = refl
last_more first x (y ∷ xs) = last_more y x xs

range_more : (a n : ℕ) → range_with_len a (n + 1) ≡ range_with_len a n ++ (a + n) ∷ []
range_more a zero = grind arith
range_more a (suc n) =
    let size : suc n + 1 ≡ suc (n + 1) = omega arith in
    let last : a + 1 + n ≡ a + suc n = omega arith in
    ap (range_with_len a) size
    ∙ ap (λ xs. a ∷ xs) (range_more (a + 1) n)
    ∙ ap (λ b. a ∷ (range_with_len (a + 1) n ++ b ∷ [])) last

module _ (p : ℕ → Bool) where
  -- the numbers from 1 on and below another that pass
  abbrev pub met : ℕ → List ℕ
  met upto = filter p (range_with_len 1 (upto - 1))

  met_next : (upto : ℕ) → 1 ≤ upto → met (upto + 1) ≡ met upto ++ cond (p upto) (upto ∷ []) []
  met_next upto some =
      let size : upto + 1 - 1 ≡ (upto - 1) + 1 = omega arith in
      let at : 1 + (upto - 1) ≡ upto = omega arith in
      ap (λ n. filter p (range_with_len 1 n)) size
      ∙ ap (filter p) (range_more 1 (upto - 1))
      ∙ filter-append p (range_with_len 1 (upto - 1)) ((1 + (upto - 1)) ∷ [])
      ∙ ap (λ b. met upto ++ filter p (b ∷ [])) at

  -- no number in between passes
  pub met_none : (upto top : ℕ) → 1 ≤ upto → upto ≤ top → ((x : ℕ) → upto ≤ x → x < top → p x ≡ false)
      → met top ≡ met upto
  met_none upto top some l none = let all : top ≡ upto + (top - upto) = omega arith in
      ap met all ∙ by (top - upto) (omega arith) where
        by : (gap : ℕ) → upto + gap ≤ top → met (upto + gap) ≡ met upto
        by zero within = let same : upto + 0 ≡ upto = omega arith in ap met same
        by (suc gap) within =
            let more : upto + suc gap ≡ upto + gap + 1 = omega arith in
            ap met more
            ∙ met_next (upto + gap) (omega arith)
            ∙ ap (λ b. met (upto + gap) ++ cond b ((upto + gap) ∷ []) []) (none (upto + gap) (omega arith) (omega arith))
            ∙ append-nil (met (upto + gap))
            ∙ by gap (omega arith)

  -- one more passes
  pub met_more : (upto byte : ℕ) → 1 ≤ upto → upto ≤ byte → ((x : ℕ) → upto ≤ x → x < byte → p x ≡ false)
      → p byte ≡ true → met (byte + 1) ≡ met upto ++ byte ∷ []
  met_more upto byte some l none passes =
      met_next byte (omega arith)
      ∙ ap (λ b. met byte ++ cond b (byte ∷ []) []) passes
      ∙ ap (λ xs. xs ++ byte ∷ []) (met_none upto byte some l none)

  -- only one passes
  pub met_sole : (byte : ℕ) → 1 ≤ byte → byte < 256 → p byte ≡ true → ((x : ℕ) → p x ≡ true → x ≡ byte)
      → filter p (range_with_len 1 255) ≡ byte ∷ []
  met_sole byte some small passes sole =
      met_none (byte + 1) 256 (omega arith) (omega arith)
      (λ x a b. false_from_ne_true (p x) (λ e. omega (arith, sole x e)))
      ∙ met_more 1 byte (omega arith) some (λ x a b. false_from_ne_true (p x) (λ e. omega (arith, sole x e))) passes
