-- The numbers of a node are read back from its row.
use Rattle.std.proofs.Common.{◌≡◌, ℕ, ◌+◌, ◌*◌, ◌/◌, ◌%◌, ◌<◌, Bool, false, nat_le, if◌then◌else◌, List, ◌++◌, All, []}
use Rattle.std.proofs.Common.{◌∷◌, ◌-◌, ◌≤◌, take, drop, get_or, length, subst, sym, ap, ◌∙◌, arith, append_assoc}
use Rattle.std.proofs.Common.{append-nil, length-append, take_all, flat_map, rules}
use Rattle.std.proofs.Math.Seq.{drop-append_seam}
use Rattle.std.proofs.lemmas.List.{take_more}
use Rattle.std.proofs.lemmas.List.Concat.{flat_map-append}
use Rattle.std.proofs.lemmas.Bool.Decides.{nat_tests}
use Rattle.virtiofs_map.specs.NodeParts.{HasBytes, IsRowOf, IsSmall, IsSmallIn, placed, row_in, row_of}
use Rattle.virtiofs_map.specs.LeU64Parts.{le_u64_at, le_u64_bytes}
use Rattle.virtiofs_map.specs.declared.xattrmap.trie.node.Node.{Node}
use Rattle.virtiofs_map.proofs.LeU64Lemmas.{first_of_three, second_of_three, third_of_three, length-le_u64_bytes}
use Rattle.virtiofs_map.proofs.LeU64Lemmas.{length-row_of, length-rows_in, row_at}

-- the numbers of a row
abbrev pub first_u64 : Node → ℕ
first_u64 node = 65536 * node.label + (256 * node.first_byte + node.length)

abbrev pub flagged : ℕ → Bool → ℕ
flagged base is_sparse = base + (if is_sparse then 140737488355328 else 0)

abbrev pub second_u64 : Node → ℕ
second_u64 node = 65536 * flagged node.base node.is_sparse + (256 * node.width + node.low_byte)

pub flagged_fits : (base : ℕ) (is_sparse : Bool) → base < 140737488355328 → flagged base is_sparse < 281474976710656
flagged_fits base is_sparse small = grind arith

pub base_of_flagged : (base : ℕ) (is_sparse : Bool) → base < 140737488355328
    → flagged base is_sparse % 140737488355328 ≡ base
base_of_flagged base is_sparse small = grind arith

pub dense_flagged : (base : ℕ) (is_sparse : Bool) → is_sparse ≡ false → flagged base is_sparse ≡ base
dense_flagged base is_sparse dense = grind arith

module _ (node : Node) (row : List ℕ) (of : IsRowOf node row) where
  pub first_u64_of : le_u64_at row 0 ≡ first_u64 node
  unfolding row_of
  first_u64_of = grind (arith, first_of_three, second_u64)

  pub second_u64_of : le_u64_at row 8 ≡ second_u64 node
  unfolding row_of
  second_u64_of = grind (arith, flagged_fits, second_of_three, first_u64)

  pub third_u64_of : le_u64_at row 16 ≡ node.answer
  unfolding row_of
  third_u64_of = grind (arith, third_of_three, first_u64, second_u64)

  -- what is above the lower two bytes of the second number
  pub flagged_of : (n : ℕ) → n ≡ le_u64_at row 8 → n / 65536 ≡ flagged node.base node.is_sparse
  flagged_of n is = omega (arith, is ∙ second_u64_of, of.small.width, of.bytes.low_byte)

  -- ---- bytes that are read by themselves

  pub byte_of_length : get_or row 0 0 ≡ node.length
  unfolding row_of le_u64_bytes
  byte_of_length = omega (arith, ap (λ (l : List ℕ). get_or l 0 0) of.is, of.small.size)

  pub byte_of_first : get_or row 1 0 ≡ node.first_byte
  unfolding row_of le_u64_bytes
  byte_of_first = omega (arith, ap (λ (l : List ℕ). get_or l 1 0) of.is, of.small.size, of.bytes.first_byte)

  pub byte_of_low : get_or row 8 0 ≡ node.low_byte
  unfolding row_of le_u64_bytes
  byte_of_low = omega (arith, ap (λ (l : List ℕ). get_or l 8 0) of.is, of.bytes.low_byte)

  pub byte_of_width : get_or row 9 0 ≡ node.width
  unfolding row_of le_u64_bytes
  byte_of_width = omega (arith, ap (λ (l : List ℕ). get_or l 9 0) of.is, of.small.width, of.bytes.low_byte)

  pub byte_of_flag : nat_le 128 (get_or row 15 0) ≡ node.is_sparse
  unfolding row_of le_u64_bytes
  byte_of_flag = grind (arith, second_u64, nat_tests)

-- numbers that fit are not wrapped
pub first_wrapped : (node : Node) → IsSmall node → HasBytes node
    → (65536 * node.label % 18446744073709551616 + (256 * node.first_byte + node.length)) % 18446744073709551616
    ≡ first_u64 node
first_wrapped node small bytes = omega arith

pub second_wrapped : (node : Node) (flag : ℕ) → flag ≡ (if node.is_sparse then 140737488355328 else 0) → IsSmall node
    → HasBytes node
    → (65536 * ((node.base + flag) % 18446744073709551616) % 18446744073709551616
    + (node.width * 256 % 18446744073709551616 + node.low_byte) % 18446744073709551616) % 18446744073709551616
    ≡ second_u64 node
second_wrapped node flag is small bytes = omega (arith, flagged_fits node.base node.is_sparse small.base)

drop_eight : (n : ℕ) (rest : List ℕ) → drop 8 (le_u64_bytes n ++ rest) ≡ rest
drop_eight n rest =
    subst (λ (k : ℕ). drop k (le_u64_bytes n ++ rest) ≡ rest) (length-le_u64_bytes n)
    (drop-append_seam (le_u64_bytes n) rest)

-- what is appended, word by word
pub pushed_row : (node : Node) (rows one two : List ℕ) (first second : ℕ) → one ≡ rows ++ le_u64_bytes first
    → two ≡ one ++ le_u64_bytes second → first ≡ first_u64 node → second ≡ second_u64 node
    → two ++ le_u64_bytes node.answer ≡ rows ++ row_of node
unfolding row_of
pushed_row node rows one two first second begun more is_first is_second = search (rules, append_assoc)

-- three words of eight bytes are a row
pub pushed_length : (rows one two three : List ℕ) (first second third : ℕ) → one ≡ rows ++ le_u64_bytes first
    → two ≡ one ++ le_u64_bytes second → three ≡ two ++ le_u64_bytes third → length three ≡ length rows + 24
pushed_length rows one two three first second third a b c = search (rules, length-append, length-le_u64_bytes)

-- the row of a node whose label has another place
pub moved_row : (first labels : ℕ) (node : Node) (image one all rest row : List ℕ) (word : ℕ)
    → row ≡ row_in first 0 node → HasBytes node → IsSmallIn first labels node
    → one ≡ image ++ le_u64_bytes word → all ≡ one ++ rest → rest ≡ drop 8 row
    → word ≡ (le_u64_at row 0 + 65536 * labels) % 18446744073709551616
    → all ≡ image ++ row_in first labels node
unfolding row_of
moved_row first labels node image one all rest row word is bytes small begun whole left moved =
    let here : le_u64_at row 0 ≡ first_u64 (placed first 0 node) =
    first_u64_of (placed first 0 node) row record {
      is = is;
      small = grind arith;
      bytes = record { low_byte = bytes.low_byte; first_byte = bytes.first_byte };
    } in
    let word_is : word ≡ first_u64 (placed first labels node) = omega (arith, here) in
    let second = le_u64_bytes (second_u64 (placed first labels node)) in
    let third = le_u64_bytes node.answer in
    let behind : drop 8 row ≡ second ++ third =
    grind (arith, append_assoc, first_u64, drop_eight) in
    rw (whole, left, behind, begun, word_is) (simp append_assoc)

-- the rows of the nodes so far, and one more
pub rows_next : (first labels : ℕ) (nodes : List Node) (rows image one all row : List ℕ) (at : ℕ)
    → rows ≡ flat_map (row_in first 0) nodes → All HasBytes nodes → All (IsSmallIn first labels) nodes
    → at < length rows / 24 → row ≡ take (at * 24 + 24 - at * 24) (drop (at * 24) rows)
    → one ≡ image ++ flat_map (row_in first labels) (take at nodes)
    → ((f : ℕ) (node : Node) → row ≡ row_in f 0 node → HasBytes node → IsSmallIn f labels node
    → all ≡ one ++ row_in f labels node)
    → all ≡ image ++ flat_map (row_in first labels) (take (at + 1) nodes)
rows_next first labels nodes rows image one all row at are bytes small here slice before after =
    let below : at < length nodes = omega (arith, ap length are ∙ length-rows_in first 0 nodes, here) in
    let node = get_or nodes at nothing in
    let width : at * 24 + 24 - at * 24 ≡ 24 = omega arith in
    let is : row ≡ row_in first 0 node = grind (arith, row_at, length-row_of) in
    after first node is (bytes at nothing below) (small at nothing below)
    ∙ ap (λ (l : List ℕ). l ++ row_in first labels node) before
    ∙ append_assoc image (flat_map (row_in first labels) (take at nodes)) (row_in first labels node)
    ∙ ap (λ (l : List ℕ). image ++ l)
    (ap (λ (l : List ℕ). flat_map (row_in first labels) (take at nodes) ++ l)
    (sym (append-nil (row_in first labels node)))
    ∙ sym (flat_map-append (row_in first labels) (take at nodes) (node ∷ []))
    ∙ ap (flat_map (row_in first labels)) (sym (take_more nodes at nothing below)))
  where
    nothing : Node
    nothing = record {
      answer = 0;
      label = 0;
      length = 0;
      base = 0;
      width = 0;
      low_byte = 0;
      first_byte = 0;
      is_sparse = false;
    }

-- and no more rows
pub rows_all : (first labels : ℕ) (nodes : List Node) (rows image all : List ℕ) (at : ℕ)
    → rows ≡ flat_map (row_in first 0) nodes → length rows / 24 ≤ at
    → all ≡ image ++ flat_map (row_in first labels) (take at nodes)
    → all ≡ image ++ flat_map (row_in first labels) nodes
rows_all first labels nodes rows image all at are past so_far = search (rules, flat_map, take_all, length-rows_in)
