-- How many nodes the trie of some texts has at most: with holes, 6 for each text and 1 for each of its bytes.
use Rattle.std.proofs.Common.{◌≡◌, ℕ, zero, suc, ◌+◌, ◌-◌, ◌*◌, ◌<◌, ◌≤◌, Bool, true, false, ◌&&◌, ◌||◌, not, cond, eqb}
use Rattle.std.proofs.Common.{List, [], ◌∷◌, ◌++◌, length, nat_lt, sum_by, refl, sym, ap, ◌∙◌, arith, inl, inr}
use Rattle.std.specs.List.{filter, list_any, range_with_len}
use Rattle.std.proofs.lemmas.Bool.{cases_Bool, cond_both, eqb-true, true≢false}
use Rattle.std.proofs.lemmas.Bool.Decides.{nat_tests}
use Rattle.std.proofs.lemmas.List.{length_push}
use Rattle.std.proofs.lemmas.List.Sums.{sum_by-cons, sum_by-le-sum_by}
use Rattle.virtiofs_map.specs.Names.{begins}
use Rattle.virtiofs_map.specs.PatternTrie.{leads, ends, next_bytes, places, are_sparse, span, goes_on, longest_label}
use Rattle.virtiofs_map.specs.PatternTrie.{places_below, nodes_in_all}
use Rattle.virtiofs_map.proofs.BeginsLemmas.{begins_length}

-- ---- sums

module _ {X : Type 0} (f g : X → ℕ) where
  sum_both : (xs : List X) → sum_by (λ x. f x + g x) xs ≡ sum_by f xs + sum_by g xs
  sum_both [] = refl
  sum_both (x ∷ xs) =
      omega (arith, sum_by-cons (λ y. f y + g y) x xs, sum_by-cons f x xs, sum_by-cons g x xs, sum_both xs)

  -- where those that pass add 7 less, all of these add 7 less
  sum_left : (p : X → Bool) → ((x : X) → p x ≡ true → f x + 7 ≤ g x) → (xs : List X)
      → sum_by f (filter p xs) + 7 * length (filter p xs) ≤ sum_by g xs
  sum_left p less [] = omega arith
  sum_left p less (x ∷ xs) =
      let rest = sum_left p less xs in
      let all = sum_by-cons g x xs in
      cond_both (p x) (x ∷ filter p xs) (filter p xs) (λ left. sum_by f left + 7 * length left ≤ sum_by g (x ∷ xs))
      (λ e. omega (arith, rest, all, sum_by-cons f x (filter p xs), less x e)) (λ e. omega (arith, rest, all))

sum_none : {X : Type 0} (xs : List X) → sum_by (λ (x : X). 0) xs ≡ 0
sum_none [] = refl
sum_none (x ∷ xs) = omega (arith, sum_by-cons (λ y. 0) x xs, sum_none xs)

-- ---- what a text adds

-- a text that begins with the path adds 6, and 1 for each byte after the path
abbrev pub worth : List ℕ → List ℕ → ℕ
worth path text = cond (begins path text) (6 + (length text - length path)) 0

abbrev pub held : List (List ℕ) → List ℕ → ℕ
held texts path = sum_by (worth path) texts

-- it adds as much where it goes on with the byte
abbrev through : List ℕ → List ℕ → ℕ → ℕ
through path text byte = cond (begins (path ++ byte ∷ []) text) (6 + (length text - length path)) 0

-- a number is met once in a range at most, and not where it is lower
abbrev hit : ℕ → ℕ → ℕ → ℕ
hit n x b = cond (eqb b x && true) n 0

single : (n x low count : ℕ)
    → sum_by (hit n x) (range_with_len low count) ≤ n × (x < low → sum_by (hit n x) (range_with_len low count) ≡ 0)
single n x low zero = (omega arith, λ past. refl)
single n x low (suc count) =
    let all = sum_by-cons (hit n x) low (range_with_len (low + 1) count) in
    let (most, none) = single n x (low + 1) count in
    elim (cases_Bool (eqb low x)) [
      | inl e ↦
          (let here = ap (λ b. cond (b && true) n 0) e in let same = eqb-true low x e in
          (omega (arith, all, here, none (omega (arith, same))), λ past. absurd (omega (arith, same))))
      | inr e ↦
          (let here = ap (λ b. cond (b && true) n 0) e in
          (omega (arith, all, here, most), λ past. omega (arith, all, here, none (omega arith))))
    ]

-- so a text goes on with one byte at most
one_byte : (n low count : ℕ) (path text : List ℕ)
    → sum_by (λ b. cond (begins (path ++ b ∷ []) text) n 0) (range_with_len low count) ≤ cond (begins path text) n 0
one_byte n low count [] [] = omega (arith, sum_none (range_with_len low count))
one_byte n low count [] (x ∷ text) = (single n x low count).0
one_byte n low count (p ∷ path) [] = omega (arith, sum_none (range_with_len low count))
one_byte n low count (p ∷ path) (x ∷ text) = by (eqb p x) (one_byte n low count path text) where
  by : (same : Bool)
      → sum_by (λ b. cond (begins (path ++ b ∷ []) text) n 0) (range_with_len low count) ≤ cond (begins path text) n 0
      → sum_by (λ b. cond (same && begins (path ++ b ∷ []) text) n 0) (range_with_len low count)
      ≤ cond (same && begins path text) n 0
  by true rest = rest
  by false rest = omega (arith, sum_none (range_with_len low count))

all_through : (path : List ℕ) (texts : List (List ℕ)) (low count : ℕ)
    → sum_by (λ b. sum_by (λ t. through path t b) texts) (range_with_len low count) ≤ held texts path
all_through path [] low count = omega (arith, sum_none (range_with_len low count))
all_through path (text ∷ texts) low count =
    let more = sum_by-le-sum_by (λ b. sum_by (λ t. through path t b) (text ∷ texts))
    (λ b. through path text b + sum_by (λ t. through path t b) texts) (range_with_len low count)
    (λ b. omega (arith, sum_by-cons (λ t. through path t b) text texts)) in
    omega (
      arith,
      more,
      sum_both (through path text) (λ b. sum_by (λ t. through path t b) texts) (range_with_len low count),
      all_through path texts low count,
      one_byte (6 + (length text - length path)) low count path text,
      sum_by-cons (worth path) text texts,
    )

-- ---- what is below a path

module _ (path : List ℕ) (byte : ℕ) where
  -- a text that goes on with the byte adds less after it
  less_after : (text : List ℕ) → worth (path ++ byte ∷ []) text + cond (begins (path ++ byte ∷ []) text) 1 0
      ≤ through path text byte
  less_after text = elim (cases_Bool (begins (path ++ byte ∷ []) text)) [
    | inl e ↦
        (let long = begins_length (path ++ byte ∷ []) text e in
        let at = λ (n : ℕ). ap {B = ℕ} (λ b. cond b n 0) e in
        omega (
          arith,
          long,
          length_push path byte,
          at (6 + (length text - length (path ++ byte ∷ []))),
          at 1,
          at (6 + (length text - length path)),
        ))
    | inr e ↦
        (let at = λ (n : ℕ). ap {B = ℕ} (λ b. cond b n 0) e in
        omega (arith, at (6 + (length text - length (path ++ byte ∷ []))), at 1))
  ]

  -- so where some text goes on with it, there is less below
  less_below : (texts : List (List ℕ)) → list_any (begins (path ++ byte ∷ [])) texts ≡ true
      → (held texts (path ++ byte ∷ []) + 1 ≤ sum_by (λ t. through path t byte) texts)
      × (7 ≤ sum_by (λ t. through path t byte) texts)
  less_below [] led = absurd (true≢false (sym led))
  less_below (text ∷ texts) led =
      let all = sum_by-cons (λ t. through path t byte) text texts in
      let rest = sum_by-cons (worth (path ++ byte ∷ [])) text texts in
      let here = less_after text in
      elim (cases_Bool (begins (path ++ byte ∷ []) text)) [
        | inl e ↦
            (let some = ap {B = ℕ} (λ b. cond b 1 0) e in
            let seven = ap {B = ℕ} (λ b. cond b (6 + (length text - length (path ++ byte ∷ []))) 0) e in
            let more = sum_by-le-sum_by (worth (path ++ byte ∷ [])) (λ t. through path t byte) texts
            (λ t. omega (arith, less_after t)) in
            (omega (arith, all, rest, here, some, more), omega (arith, all, here, some, seven)))
        | inr f ↦
            (let later = less_below texts (sym (ap (λ b. b || list_any (begins (path ++ byte ∷ [])) texts) f) ∙ led) in
            (omega (arith, all, rest, here, later.0), omega (arith, all, later.1)))
      ]

-- ---- places of children

not_less : (a b : ℕ) → nat_lt a b ≡ false → b ≤ a
not_less a b e = grind (arith, nat_tests)

place_count : (bytes : List ℕ) → places bytes ≤ 7 * length bytes - 6
unfolding places
place_count [] = omega arith
place_count (low ∷ []) = cond_both (are_sparse (low ∷ [])) 1 (span low []) (λ n. n ≤ 1) (λ _. omega arith) (λ _. omega arith)
place_count (low ∷ next ∷ bytes) =
    cond_both (are_sparse (low ∷ next ∷ bytes)) (length (low ∷ next ∷ bytes)) (span low (next ∷ bytes))
    (λ n. n ≤ 7 * length (low ∷ next ∷ bytes) - 6)
    (λ _. omega arith)
    (λ e. omega (arith, not_less (2 * length (low ∷ next ∷ bytes) + 4) (span low (next ∷ bytes)) e))

-- ---- all nodes

module _ (texts : List (List ℕ)) where
  child_most : (path : List ℕ) (byte below : ℕ) → below ≤ held texts (path ++ byte ∷ []) - 6
      → leads texts (path ++ byte ∷ []) ≡ true → below + 7 ≤ sum_by (λ t. through path t byte) texts
  unfolding leads
  child_most path byte below most led =
      let less = less_below path byte texts led in
      omega (arith, less)

  -- what is below a path, and 7 for each byte that leads on, is no more than the texts add
  some_most : (path range bytes : List ℕ) → bytes ≡ filter (λ b. leads texts (path ++ b ∷ [])) range
      → sum_by (λ b. sum_by (λ t. through path t b) texts) range ≤ held texts path → (below : ℕ → ℕ)
      → ((byte : ℕ) → below byte ≤ held texts (path ++ byte ∷ []) - 6)
      → sum_by below bytes + 7 * length bytes ≤ held texts path
  some_most path range bytes is all below most =
      let left = sum_left below (λ b. sum_by (λ t. through path t b) texts) (λ b. leads texts (path ++ b ∷ []))
      (λ b led. child_most path b (below b) (most b) led) range in
      omega (arith, all, left, ap (sum_by below) is, ap length is)

  next_most : (path : List ℕ) (below : ℕ → ℕ) → ((byte : ℕ) → below byte ≤ held texts (path ++ byte ∷ []) - 6)
      → sum_by below (next_bytes texts path) + 7 * length (next_bytes texts path) ≤ held texts path
  unfolding next_bytes
  next_most path below most =
      some_most path (range_with_len 1 255) (filter (λ b. leads texts (path ++ b ∷ [])) (range_with_len 1 255)) refl
      (all_through path texts 1 255) below most

  below_most : (levels room : ℕ) (path : List ℕ) → places_below levels room texts path ≤ held texts path - 6
  unfolding places_below goes_on
  below_most zero room path = omega arith
  below_most (suc levels) room path =
      let bytes = next_bytes texts path in
      let label = next_most path (λ b. places_below levels (room - 1) texts (path ++ b ∷ []))
      (λ b. below_most levels (room - 1) (path ++ b ∷ [])) in
      let node = next_most path (λ b. places_below levels longest_label texts (path ++ b ∷ []))
      (λ b. below_most levels longest_label (path ++ b ∷ [])) in
      cond_both (goes_on room texts path)
      (sum_by (λ b. places_below levels (room - 1) texts (path ++ b ∷ [])) bytes)
      (places bytes + sum_by (λ b. places_below levels longest_label texts (path ++ b ∷ [])) bytes)
      (λ n. n ≤ held texts path - 6)
      (λ e. omega (arith, label, one_goes (nat_lt 0 room) (not (ends texts path)) (length bytes) e))
      (λ e. by_bytes bytes node)
    where
      one_goes : (a b : Bool) (n : ℕ) → (a && b && eqb n 1) ≡ true → n ≡ 1
      one_goes a b n e = grind (arith, true≢false, eqb-true)

      by_bytes : (bytes : List ℕ)
          → sum_by (λ b. places_below levels longest_label texts (path ++ b ∷ [])) bytes + 7 * length bytes
          ≤ held texts path
          → places bytes + sum_by (λ b. places_below levels longest_label texts (path ++ b ∷ [])) bytes
          ≤ held texts path - 6
      by_bytes [] node = omega (arith, place_count [])
      by_bytes (b ∷ bytes) node = omega (arith, place_count (b ∷ bytes))

  pub nodes_most : nodes_in_all texts ≤ 1 + (held texts [] - 6)
  unfolding nodes_in_all
  nodes_most = omega (arith, below_most (suc (sum_by length texts)) 0 [])
