-- Where the row of a rule and its prepend stand in an image.
use Rattle.std.proofs.Common.{◌≡◌, ℕ, ◌+◌, ◌-◌, ◌*◌, ◌%◌, ◌≤◌, List, Some, length, take, drop, sym, ap, subst, ◌∙◌}
use Rattle.std.proofs.Common.{arith, length-take, slice_get}
use Rattle.std.proofs.lemmas.Option.{slice_get_within}
use Rattle.virtiofs_map.specs.LeU64Parts.{le_u64_at}
use Rattle.virtiofs_map.specs.NamesImage.{IsImage, IsRuleRow, part, part_end, part_start, row_at, span_of}
use Rattle.virtiofs_map.specs.NodeParts.{IsSpan}
use Rattle.virtiofs_map.specs.Rule.{MappingRule}
use Rattle.virtiofs_map.proofs.LeU64Lemmas.{inside}

-- what is left of a number in eight bytes
abbrev pub wrapped : ℕ → ℕ
wrapped n = n % 18446744073709551616

-- the row of a rule, whose patterns stand in the last part of the image
pub record HasRowAt (image : List ℕ) (rule : MappingRule) (from : ℕ) : Type 0 where
  pub within : from + 24 ≤ length image
  pub is : IsRuleRow (part image 3) rule (take 24 (drop from image))

-- the prepend of a rule
pub record HasPrependAt (image : List ℕ) (rule : MappingRule) (from to : ℕ) : Type 0 where
  pub rising : from ≤ to
  pub within : to ≤ length image
  pub is : take (to - from) (drop from image) ≡ rule.prepend

module _ (rules : List MappingRule) (image : List ℕ) (place : ℕ) (rule : MappingRule) (is : IsImage rules image)
    (here : slice_get rules place ≡ Some rule) where
  pub row_there : (start from : ℕ) → start ≡ part_start image 2 → from ≡ wrapped (start + wrapped (place * 24))
      → HasRowAt image rule from
  row_there start from is_start is_from =
      let stored = is.stored in
      let size : ℕ = part_end image 2 - part_start image 2 in
      let short = length-take size (drop (part_start image 2) image) in
      let below = slice_get_within rules place rule here in
      let third = is.parts 2 (omega arith) in
      let fourth = is.parts 3 (omega arith) in
      let rising = third.rising in
      let within = third.within in
      let fits : place * 24 + 24 ≤ size = omega (arith, stored.long, short, below) in
      let at : part_start image 2 + place * 24 ≡ from =
      omega (arith, fits, rising, fourth.rising, is.last, is.short) in
      let row : row_at (part image 2) place ≡ take 24 (drop from image) =
      inside image (part_start image 2) size (place * 24) 24 fits ∙ ap (λ n. take 24 (drop n image)) at in
      record {
        within = omega (arith, at, fits, rising, within);
        is = subst (IsRuleRow (part image 3) rule) row (stored.each place rule here);
      }

  pub prepend_there : (at start second third from to : ℕ) (row : List ℕ) → HasRowAt image rule at
      → row ≡ take (at + 24 - at) (drop at image) → start ≡ part_start image 3 → second ≡ le_u64_at row 8
      → third ≡ le_u64_at row 16 → from ≡ wrapped (start + second) → to ≡ wrapped (start + third)
      → HasPrependAt image rule from to
  prepend_there at start second third from to row has are is_start is_second is_third is_from is_to =
      let size : ℕ = part_end image 3 - part_start image 3 in
      let width : at + 24 - at ≡ 24 = omega arith in
      let is_row : row ≡ take 24 (drop at image) = are ∙ ap (λ n. take n (drop at image)) width in
      let stands : IsSpan (part image 3) rule (span_of row) = rw is_row has.is.is in
      let fourth = is.parts 3 (omega arith) in
      let rising = fourth.rising in
      let within = fourth.within in
      let last = is.last in
      let most = is.short in
      let up : second ≤ third = omega (arith, stands.rising_on) in
      let ends : third ≤ size =
      omega (arith, length-take size (drop (part_start image 3) image), stands.within) in
      let begins_at : part_start image 3 + second ≡ from =
      omega (arith, is_start, is_from, up, ends, rising, last, most) in
      let ends_at : part_start image 3 + third ≡ to =
      omega (arith, is_start, is_to, ends, rising, last, most) in
      let count : to - from ≡ third - second = omega (arith, begins_at, ends_at) in
      let fits : second + (third - second) ≤ size = omega (arith, up, ends) in
      record {
        rising = omega (arith, begins_at, ends_at, up);
        within = omega (arith, ends_at, ends, rising, within);
        is =
            ap (λ n. take n (drop from image)) count
            ∙ ap (λ n. take (third - second) (drop n image)) (sym begins_at)
            ∙ sym (inside image (part_start image 3) size second (third - second) fits)
            ∙ rw (is_second, is_third) stands.prepend;
      }
