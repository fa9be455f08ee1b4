-- A number of eight bytes is read back from its bytes, wherever they stand, and a row of three from its place among
-- rows.
use Rattle.std.proofs.Common.{◌≡◌, ℕ, ◌+◌, ◌*◌, ◌/◌, ◌%◌, ◌^◌, ◌<◌, zero, suc, List, [], ◌∷◌, ◌++◌, All, length, get_or}
use Rattle.std.proofs.Common.{take, drop, refl, ap, subst, ◌∙◌, arith, append_assoc, append-nil, length-append, ◌-◌}
use Rattle.std.proofs.Common.{◌≤◌, sym, rules}
use Rattle.std.proofs.Math.Seq.{drop-append-add, take-append_seam}
use Rattle.std.proofs.lemmas.Nat.{from_le_bytes-to_le_bytes_8}
use Rattle.std.proofs.lemmas.List.Elements.{All-head, All-tail}
use Rattle.std.specs.Int.{w64, from_le_bytes}
use Rattle.std.specs.List.{flat_map}
use Rattle.virtiofs_map.specs.NodeParts.{placed, row_in, row_of}
use Rattle.virtiofs_map.specs.LeU64Parts.{le_u64_at, le_u64_bytes}
use Rattle.virtiofs_map.specs.declared.xattrmap.trie.node.Node.{Node}
use Rattle.std.proofs.lemmas.List.{drop-drop, drop-take, take-take}

pub length-le_u64_bytes : (n : ℕ) → length (le_u64_bytes n) ≡ 8
unfolding le_u64_bytes
length-le_u64_bytes n = refl

-- at the front
pub le_u64_at-front : (n : ℕ) (rest : List ℕ) → n < 2 ^ 64 → le_u64_at (le_u64_bytes n ++ rest) 0 ≡ n
unfolding le_u64_at le_u64_bytes
le_u64_at-front n rest fits = from_le_bytes-to_le_bytes_8 n fits

-- behind other bytes
pub le_u64_at-past : (front rest : List ℕ) (k : ℕ) → le_u64_at (front ++ rest) (length front + k) ≡ le_u64_at rest k
unfolding le_u64_at
le_u64_at-past front rest k = ap (λ l. from_le_bytes w64 (take 8 l)) (drop-append-add front rest k)

-- behind another number
pub le_u64_at-next : (a : ℕ) (rest : List ℕ) (k : ℕ) → le_u64_at (le_u64_bytes a ++ rest) (8 + k) ≡ le_u64_at rest k
le_u64_at-next a rest k =
    subst (λ (n : ℕ). le_u64_at (le_u64_bytes a ++ rest) (n + k) ≡ le_u64_at rest k) (length-le_u64_bytes a)
    (le_u64_at-past (le_u64_bytes a) rest k)

-- ---- three numbers in a row

three_apart : (a b c : ℕ)
    → le_u64_bytes a ++ le_u64_bytes b ++ le_u64_bytes c ≡ le_u64_bytes a ++ (le_u64_bytes b ++ (le_u64_bytes c ++ []))
three_apart a b c = simp (append_assoc, append-nil)

pub length-three : (a b c : ℕ) → length (le_u64_bytes a ++ le_u64_bytes b ++ le_u64_bytes c) ≡ 24
length-three a b c = simp (length-append, length-le_u64_bytes)

pub first_of_three : (a b c : ℕ) → a < 2 ^ 64 → le_u64_at (le_u64_bytes a ++ le_u64_bytes b ++ le_u64_bytes c) 0 ≡ a
first_of_three a b c fits = rw (three_apart a b c) (le_u64_at-front a (le_u64_bytes b ++ (le_u64_bytes c ++ [])) fits)

pub second_of_three : (a b c : ℕ) → b < 2 ^ 64 → le_u64_at (le_u64_bytes a ++ le_u64_bytes b ++ le_u64_bytes c) 8 ≡ b
second_of_three a b c fits =
    rw (three_apart a b c)
    (le_u64_at-next a (le_u64_bytes b ++ (le_u64_bytes c ++ [])) 0 ∙ le_u64_at-front b (le_u64_bytes c ++ []) fits)

pub third_of_three : (a b c : ℕ) → c < 2 ^ 64 → le_u64_at (le_u64_bytes a ++ le_u64_bytes b ++ le_u64_bytes c) 16 ≡ c
third_of_three a b c fits =
    rw (three_apart a b c)
    (le_u64_at-next a (le_u64_bytes b ++ (le_u64_bytes c ++ [])) 8 ∙ le_u64_at-next b (le_u64_bytes c ++ []) 0
    ∙ le_u64_at-front c [] fits)

-- ---- two numbers that share eight bytes

pub shared_low : (low high : ℕ) → low < 281474976710656 → (low + 281474976710656 * high) % 281474976710656 ≡ low
shared_low low high small = omega arith

pub shared_high : (low high : ℕ) → low < 281474976710656 → (low + 281474976710656 * high) / 281474976710656 ≡ high
shared_high low high small = omega arith

pub shared_fits : (low high : ℕ) → low < 281474976710656 → high < 65536 → low + 281474976710656 * high < 2 ^ 64
shared_fits low high small less = omega arith

-- ---- rows of 24 bytes

module _ {X : Type 0} (row : X → List ℕ) (size : (x : X) → length (row x) ≡ 24) where
  -- there are as many as elements
  pub length-rows : (xs : List X) → length (flat_map row xs) ≡ 24 * length xs
  length-rows [] = refl
  length-rows (x ∷ xs) = grind (arith, length-rows xs, length-append)

  drop_row : (x : X) (rows : List ℕ) (at : ℕ) → drop (suc at * 24) (row x ++ rows) ≡ drop (at * 24) rows
  drop_row x rows at = search (rules, drop-append-add)

  -- the row at a place is that of the element there
  pub row_at : (xs : List X) (at : ℕ) (d : X) → at < length xs
      → take 24 (drop (at * 24) (flat_map row xs)) ≡ row (get_or xs at d)
  row_at [] at d below = absurd (omega arith)
  row_at (x ∷ xs) zero d below =
      subst (λ (n : ℕ). take n (row x ++ flat_map row xs) ≡ row x) (size x) (take-append_seam (row x) (flat_map row xs))
  row_at (x ∷ xs) (suc at) d below = ap (take 24) (drop_row x (flat_map row xs) at) ∙ row_at xs at d (omega arith)

-- those of nodes
pub length-row_of : (node : Node) → length (row_of node) ≡ 24
unfolding row_of
length-row_of node = length-three (65536 * node.label + (256 * node.first_byte + node.length)) _ node.answer

pub length-rows_in : (first labels : ℕ) (nodes : List Node)
    → length (flat_map (row_in first labels) nodes) ≡ 24 * length nodes
length-rows_in first labels = length-rows (row_in first labels) (λ node. length-row_of (placed first labels node))

-- ---- numbers one after the other

pub length-words : (ws : List ℕ) → length (flat_map le_u64_bytes ws) ≡ 8 * length ws
length-words [] = refl
length-words (w ∷ ws) = grind (arith, length-words ws, length-append, length-le_u64_bytes)

pub word_of_words : (ws rest : List ℕ) (k : ℕ) → k < length ws → All (λ w. w < 2 ^ 64) ws
    → le_u64_at (flat_map le_u64_bytes ws ++ rest) (8 * k) ≡ get_or ws k 0
word_of_words [] rest k below fit = absurd (omega arith)
word_of_words (w ∷ ws) rest zero below fit = grind (arith, append_assoc, le_u64_at-front, All-head)
word_of_words (w ∷ ws) rest (suc k) below fit =
    let place : 8 * suc k ≡ 8 + 8 * k = omega arith in
    ap (λ (l : List ℕ). le_u64_at l (8 * suc k)) (append_assoc (le_u64_bytes w) (flat_map le_u64_bytes ws) rest)
    ∙ ap (le_u64_at (le_u64_bytes w ++ (flat_map le_u64_bytes ws ++ rest))) place
    ∙ le_u64_at-next w (flat_map le_u64_bytes ws ++ rest) (8 * k)
    ∙ word_of_words ws rest k (omega arith) (All-tail (λ w. w < 2 ^ 64) w ws fit)

pub inside : (xs : List ℕ) (start n i k : ℕ) → i + k ≤ n
    → take k (drop i (take n (drop start xs))) ≡ take k (drop (start + i) xs)
inside xs start n i k within =
    let whole : i + (n - i) ≡ n = omega (arith, within) in
    let less : k ≤ n - i = omega (arith, within) in
    ap (λ m. take k (drop i (take m (drop start xs)))) (sym whole)
    ∙ ap (take k) (drop-take i (n - i) (drop start xs))
    ∙ take-take k (n - i) (drop i (drop start xs)) less
    ∙ ap (take k) (drop-drop i start xs)
