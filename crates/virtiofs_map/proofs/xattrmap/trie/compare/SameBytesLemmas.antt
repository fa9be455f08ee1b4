-- Rows of bytes are the same where their numbers of eight bytes are, or both ends.
use Rattle.std.proofs.Common.{get_or-drop, get_or-take, ◌≡◌, ℕ, ◌+◌, ◌-◌, ◌≤◌, List, length, take, refl, inl, inr}
use Rattle.std.proofs.Common.{sym, ap, ◌∙◌, arith, drop, rules, take_all, length-take}
use Rattle.std.proofs.Math.Seq.{take-add}
use Rattle.std.specs.Int.{w64, from_le_bytes, to_le_bytes}
use Rattle.std.proofs.lemmas.Bool.{cases_lt}
use Rattle.std.proofs.lemmas.Nat.{le_bytes_8}
use Rattle.std.proofs.lemmas.List.{get_or_past, length-take-le, length-drop, drop-drop, drop-take, take-take}
use Rattle.virtiofs_map.specs.KeyedParts.{AreBytes}
use Rattle.virtiofs_map.specs.LeU64Parts.{le_u64_at}

-- ---- numbers of eight bytes

-- bytes of bytes are bytes
part_small : (n k : ℕ) (xs : List ℕ) → AreBytes xs → AreBytes (take n (drop k xs))
part_small n k xs bytes i = elim (cases_lt i n) [
  | inl l ↦ omega (arith, get_or-take n (drop k xs) i 0 l, get_or-drop k xs i 0, bytes (k + i))
  | inr g ↦ omega (arith, get_or_past (take n (drop k xs)) i 0 (omega (arith, length-take n (drop k xs))))
]

-- the bytes of a number that was read
word_back : (xs : List ℕ) (k n : ℕ) → AreBytes xs → k + 8 ≤ length xs → n ≡ le_u64_at xs k
    → to_le_bytes w64 n ≡ take 8 (drop k xs)
unfolding le_u64_at
word_back xs k n bytes long is =
    le_bytes_8 (take 8 (drop k xs)) n
    (length-take-le 8 (drop k xs) (omega (arith, length-drop k xs))) (part_small 8 k xs bytes) is

-- eight bytes are the same where their numbers are
pub same_word : (xs ys : List ℕ) (k : ℕ) → AreBytes xs → AreBytes ys → k + 8 ≤ length xs → k + 8 ≤ length ys
    → le_u64_at xs k ≡ le_u64_at ys k → take 8 (drop k xs) ≡ take 8 (drop k ys)
same_word xs ys k one other a b e =
    sym (word_back xs k (le_u64_at xs k) one a refl) ∙ word_back ys k (le_u64_at xs k) other b e

-- what two rows have alike up to a place, and then from there on
pub take_on : {X : Type 0} (k m : ℕ) (xs ys : List X) → take k xs ≡ take k ys
    → take m (drop k xs) ≡ take m (drop k ys) → take (k + m) xs ≡ take (k + m) ys
take_on k m xs ys first more = grind (arith, take-add)

-- so 16 bytes are, from their two numbers
pub same_sixteen : (xs ys : List ℕ) (k : ℕ) → AreBytes xs → AreBytes ys → k + 16 ≤ length xs → k + 16 ≤ length ys
    → le_u64_at xs k ≡ le_u64_at ys k → le_u64_at xs (k + 8) ≡ le_u64_at ys (k + 8)
    → take 16 (drop k xs) ≡ take 16 (drop k ys)
same_sixteen xs ys k one other a b first second =
    take_on 8 8 (drop k xs) (drop k ys) (same_word xs ys k one other (omega arith) (omega arith) first)
    (ap (take 8) (drop-drop 8 k xs)
    ∙ same_word xs ys (k + 8) one other (omega arith) (omega arith) second
    ∙ ap (take 8) (sym (drop-drop 8 k ys)))

-- and their numbers are the same where they are
word_again : (xs : List ℕ) (k : ℕ) → le_u64_at xs k ≡ from_le_bytes w64 (take 8 (take 16 (drop k xs)))
unfolding le_u64_at
word_again xs k = ap (from_le_bytes w64) (sym (take-take 8 16 (drop k xs) (omega arith)))

word_after : (xs : List ℕ) (k : ℕ) → le_u64_at xs (k + 8) ≡ from_le_bytes w64 (drop 8 (take 16 (drop k xs)))
unfolding le_u64_at
word_after xs k = ap (from_le_bytes w64) (ap (take 8) (sym (drop-drop 8 k xs)) ∙ sym (drop-take 8 8 (drop k xs)))

pub first_of_sixteen : (xs ys : List ℕ) (k : ℕ) → take 16 (drop k xs) ≡ take 16 (drop k ys)
    → le_u64_at xs k ≡ le_u64_at ys k
first_of_sixteen xs ys k e = search (rules, word_again)

pub second_of_sixteen : (xs ys : List ℕ) (k : ℕ) → take 16 (drop k xs) ≡ take 16 (drop k ys)
    → le_u64_at xs (k + 8) ≡ le_u64_at ys (k + 8)
second_of_sixteen xs ys k e = search (rules, word_after)

-- ---- ends

-- rows that are the same up to a place, and in their last bytes, which begin before it
pub same_to_end : (n at : ℕ) (xs ys : List ℕ) → length xs ≡ length ys → n ≤ length xs → length xs ≤ at + n
    → take at xs ≡ take at ys → take n (drop (length xs - n) xs) ≡ take n (drop (length xs - n) ys) → xs ≡ ys
same_to_end n at xs ys same long near first last =
    let all : length xs - n + n ≡ length xs = omega (arith, long) in
    let less : length xs - n ≤ at = omega (arith, near) in
    let fronts : take (length xs - n) xs ≡ take (length xs - n) ys =
    sym (take-take (length xs - n) at xs less) ∙ ap (take (length xs - n)) first ∙ take-take (length xs - n) at ys less in
    sym (take_all (length xs - n + n) xs (omega (arith, all)))
    ∙ take_on (length xs - n) n xs ys fronts last
    ∙ take_all (length xs - n + n) ys (omega (arith, all, same))
