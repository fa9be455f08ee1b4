-- The child of a range to which a byte leads: the patterns of the range that go on with the byte.
use Rattle.std.proofs.Common.{◌≡◌, ℕ, suc, ◌+◌, ◌-◌, ◌<◌, ◌≤◌, List, ◌∷◌, ◌++◌, ap, drop, length, take, get_or, inl, inr, sym}
use Rattle.std.proofs.Common.{◌∙◌, arith, rules}
use Rattle.std.proofs.Math.Seq.{take-add}
use Rattle.std.proofs.lemmas.Bool.{cases_lt}
use Rattle.std.proofs.lemmas.List.{drop_more, take-append-le, take-take, take_more_same}
use Rattle.virtiofs_map.specs.Names.{begins}
use Rattle.virtiofs_map.specs.TrieBuildParts.{text, AreReady, IsLeast, IsInside, IsUpto, IsPatternRange, IsKid, path_of_range}
use Rattle.virtiofs_map.specs.declared.xattrmap.trie.build.PatternRange.{PatternRange}
use Rattle.virtiofs_map.specs.declared.xattrmap.trie.patterns.Pattern.{Pattern}
use Rattle.virtiofs_map.proofs.BeginsLemmas.{begins_from, begins_length, begins_split, begins_trans}
use Rattle.virtiofs_map.proofs.xattrmap.FittingLemmas.{begins_front}
use Rattle.virtiofs_map.proofs.xattrmap.trie.build.PatternOrderLemmas.{IsLeast-same}
use Rattle.virtiofs_map.proofs.xattrmap.trie.build.PatternOrderLemmas.{shorter, same_byte, no_zero, goes_on, between}
use Rattle.virtiofs_map.proofs.xattrmap.trie.build.RangePathLemmas.{path_size}

-- a front, the byte after it, and some bytes after that
front_and_more : (d l : ℕ) (s : List ℕ) → d < length s
    → take (d + 1 + l) s ≡ take d s ++ get_or s d 0 ∷ take l (drop (d + 1) s)
front_and_more d l s b =
    let size : d + 1 + l ≡ d + suc l = omega arith in
    ap (λ n. take n s) size ∙ take-add d (suc l) s ∙ ap (λ t. take d s ++ take (suc l) t) (drop_more s d 0 b)

-- the path of a child
pub kid_path : {patterns : List Pattern} {range kid : PatternRange} → IsPatternRange patterns range
    → IsKid patterns range kid
    → path_of_range patterns kid
    ≡ path_of_range patterns range ++ kid.first_byte ∷ take kid.length (drop (range.depth + 1) (text patterns kid.low))
kid_path {patterns} {range} {kid} is of = grind (arith, front_and_more)

module _ {most : ℕ} {patterns : List Pattern} (ready : AreReady most patterns) {range kid : PatternRange}
    (is : IsPatternRange patterns range) (least : IsLeast patterns (IsUpto patterns range) kid.answer)
    (cut : IsKid patterns range kid) where
  inner : (i : ℕ) → kid.low ≤ i → i < kid.high → (range.low ≤ i) × (i < range.high)
  inner i l u = let a = cut.group.from in let b = cut.group.upto in (omega (arith, a), omega (arith, b))

  first_in : (range.low ≤ kid.low) × (kid.low < range.high)
  first_in = let some = cut.group.some in inner kid.low (omega arith) some

  front : (i : ℕ) → kid.low ≤ i → i < kid.high
      → take range.depth (text patterns i) ≡ take range.depth (text patterns kid.low)
  front i l u = search (rules, inner)

  deeper : range.depth < kid.depth
  deeper = omega (arith, cut.depth)

  -- the last pattern shares the byte with the first
  one_more : (i : ℕ) → kid.low ≤ i → i < kid.high
      → take (range.depth + 1) (text patterns i) ≡ take (range.depth + 1) (text patterns kid.low)
  one_more i l u =
      let below : range.depth < length (text patterns kid.low) = omega (arith, deeper, cut.long) in
      let full = no_zero ready kid.low range.depth (omega (arith, cut.group.some, cut.group.upto, is.within)) below in
      let byte = cut.group.bytes i l u in
      let more = goes_on ready i range.depth (λ z. full (sym byte ∙ z)) in
      take_more_same (text patterns i) (text patterns kid.low) range.depth 0 more below (front i l u) byte

  last : take kid.depth (text patterns kid.low) ≡ take kid.depth (text patterns (kid.high - 1))
  last = let s = cut.group.some in cut.same (sym (one_more (kid.high - 1) (omega (arith, s)) (omega (arith, s))))

  pub all_same : (i : ℕ) → kid.low ≤ i → i < kid.high
      → (take kid.depth (text patterns i) ≡ take kid.depth (text patterns kid.low))
      × (kid.depth ≤ length (text patterns i))
  all_same i l u =
      let b = is.within in
      between ready kid.depth kid.low i (kid.high - 1) l (omega arith) (omega (arith, cut.group.upto, b)) cut.long last

  whole : (i : ℕ) → i < length patterns → take kid.depth (text patterns i) ≡ take kid.depth (text patterns kid.low)
      → (kid.low ≤ i) × (i < kid.high)
  whole i within e =
      let d = deeper in
      let less = shorter (text patterns i) (text patterns kid.low) kid.depth range.depth (omega (arith, d)) e in
      let here = is.whole i within (less ∙ is.same kid.low first_in.0 first_in.1) in
      cut.group.all i here.0 here.1 (same_byte (text patterns i) (text patterns kid.low) kid.depth range.depth d e)

  to_kid : (i : ℕ) → IsUpto patterns range i → IsInside patterns kid i
  to_kid i (within, starts) = (
    (
      within,
      begins_trans (text patterns i) (path_of_range patterns range) (path_of_range patterns kid) starts
          (begins_from (path_of_range patterns range) (path_of_range patterns kid) _ (kid_path is cut)),
    ),
    omega (arith, begins_length (text patterns i) (path_of_range patterns range) starts, path_size ready is, deeper),
  )

  from_kid : (i : ℕ) → IsInside patterns kid i → IsUpto patterns range i
  from_kid i ((within, starts), below) = elim (cases_lt range.depth (length (text patterns i))) [
    | inr short ↦ (
      within,
      ap (begins (text patterns i))
          (sym (is.same kid.low first_in.0 first_in.1)
          ∙ sym (take-take range.depth kid.depth (text patterns kid.low) (omega (arith, deeper))))
          ∙ begins_front (text patterns i) (path_of_range patterns kid) range.depth short ∙ starts,
    )
    | inl longer ↦
        absurd (
        let more : take (range.depth + 1) (text patterns i) ≡ take (range.depth + 1) (text patterns kid.low) =
        sym (take-append-le (range.depth + 1) (text patterns i) _ (omega (arith, longer)))
        ∙ ap (take (range.depth + 1)) (sym (begins_split (text patterns i) (path_of_range patterns kid) starts))
        ∙ take-take (range.depth + 1) kid.depth (text patterns kid.low) (omega (arith, deeper)) in
        let less = shorter (text patterns i) (text patterns kid.low) (range.depth + 1) range.depth (omega arith) more in
        let here = is.whole i within (less ∙ is.same kid.low first_in.0 first_in.1) in
        let there = cut.group.all i here.0 here.1
        (same_byte (text patterns i) (text patterns kid.low) (range.depth + 1) range.depth (omega arith) more) in
        omega (arith, (all_same i there.0 there.1).1))
  ]

  pub kid_range : IsPatternRange patterns kid
  kid_range = record {
    some = inr cut.group.some;
    rising = omega (arith, cut.group.some);
    within = omega (arith, cut.group.upto, is.within);
    label = omega (arith, cut.depth);
    size = cut.size;
    long = λ i l u. (all_same i l u).1;
    same = λ i l u. (all_same i l u).0;
    whole = whole;
    least = grind (arith, IsLeast-same, to_kid, from_kid);
  }
