-- The node of a range, and the places of its children.
use Rattle.std.proofs.Common.{◌≡◌, ◌⊎◌, ℕ, ◌+◌, ◌-◌, ◌<◌, ◌≤◌, Bool, false, List, [], length, inl, inr}
use Rattle.std.proofs.Common.{append-nil, length-append, ap, sym, ◌∙◌, arith, take_all, take-take, take, drop, rules}
use Rattle.std.proofs.lemmas.Bool.{cases_lt}
use Rattle.std.proofs.lemmas.List.{take-append-le}
use Rattle.virtiofs_map.specs.Names.{begins}
use Rattle.virtiofs_map.specs.NodeParts.{no_answer}
use Rattle.virtiofs_map.specs.TrieBuildParts.{pattern_at, text, AreReady, GoOnFrom, IsLeast, IsInside, IsUpto, IsPatternRange}
use Rattle.virtiofs_map.specs.TrieBuildParts.{AreAdded, IsExpanded, IsRangeOrHole, below, path_of_range}
use Rattle.virtiofs_map.specs.declared.xattrmap.trie.build.PatternRange.{PatternRange}
use Rattle.virtiofs_map.specs.declared.xattrmap.trie.patterns.Pattern.{Pattern}
use Rattle.virtiofs_map.proofs.BeginsLemmas.{begins_itself, begins_length, begins_split}
use Rattle.virtiofs_map.proofs.xattrmap.trie.build.PatternOrderLemmas.{IsLeast-same}
use Rattle.virtiofs_map.proofs.xattrmap.trie.build.RangePathLemmas.{longer_on, path_size}

-- a place with patterns has a range
pub range_of : (patterns : List Pattern) (range : PatternRange) → IsRangeOrHole patterns range → (range.low ≡ range.high → ⊥)
    → IsPatternRange patterns range
range_of patterns range place ne = elim place [
  | inl is ↦ is
  | inr h ↦ absurd (ne (ap (λ (p : PatternRange). p.low) h ∙ sym (ap (λ (p : PatternRange). p.high) h)))
]

pub small_answer : (patterns : List Pattern) (range : PatternRange) → IsRangeOrHole patterns range
    → range.answer ≤ no_answer
small_answer patterns range place = elim place [
  | inl is ↦ is.least.top
  | inr hole ↦ omega (arith, ap (λ (p : PatternRange). p.answer) hole)
]

-- the path of a range starts with the pattern at that place, which is shorter or one of its first patterns
abbrev pub IsMet : List Pattern → PatternRange → ℕ → ℕ → Type 0
IsMet patterns range from i = IsInside patterns range i ⊎ ((range.low ≤ i) × (i < from))

module _ {most : ℕ} {patterns : List Pattern} (ready : AreReady most patterns) {range : PatternRange}
    (is : IsPatternRange patterns range) where
  -- a pattern that is the path of a range is one of its patterns
  in_range : (i : ℕ) → IsUpto patterns range i → range.depth ≤ length (text patterns i)
      → (range.low ≤ i) × (i < range.high)
  in_range i (within, starts) l =
      let path = path_of_range patterns range in
      is.whole i within
      (sym (take-append-le range.depth (text patterns i) (drop (length (text patterns i)) path) l)
      ∙ ap (take range.depth) (sym (begins_split (text patterns i) path starts))
      ∙ take-take range.depth range.depth (text patterns range.low) (omega arith))

  -- the answer of the path of a range whose first patterns have ended
  pub least_ended : (from answer : ℕ) → from ≤ range.high
      → ((i : ℕ) → range.low ≤ i → i < from → length (text patterns i) ≡ range.depth)
      → (from < range.high → GoOnFrom patterns range from)
      → IsLeast patterns (IsMet patterns range from) answer
      → IsLeast patterns (IsUpto patterns range) answer
  least_ended from answer upto ended on least =
      IsLeast-same patterns (IsMet patterns range from) (IsUpto patterns range) answer least to either where
        to : (i : ℕ) → IsMet patterns range from i → IsUpto patterns range i
        to i (inl inside) = inside.0
        to i (inr (a, b)) =
            let whole : text patterns i ≡ path_of_range patterns range =
            sym (take_all range.depth (text patterns i) (omega (arith, ended i a b))) ∙ is.same i a (omega arith) in
            (omega (arith, is.within), ap (begins (text patterns i)) (sym whole) ∙ begins_itself (text patterns i))

        either : (i : ℕ) → IsUpto patterns range i → IsMet patterns range from i
        either i u = elim (cases_lt (length (text patterns i)) range.depth) [
          | inl short ↦ inl (u, short)
          | inr g ↦
              (let here = in_range i u g in
              elim (cases_lt i from) [
                | inl b ↦ inr (here.0, b)
                | inr past ↦ absurd (
                    let more = on (omega (arith, here)) in
                    omega (
                      arith,
                      longer_on ready is from i more.low past here.1 more.longer,
                      begins_length (text patterns i) (path_of_range patterns range) u.1,
                      path_size ready is,
                    ))
              ])
        ]

  -- that of a range with no pattern
  pub least_bare : range.low ≡ range.high → IsLeast patterns (IsUpto patterns range) range.answer
  least_bare bare =
      least_ended range.low range.answer is.rising (λ i a b. absurd (omega arith)) (λ some. absurd (omega arith))
      (IsLeast-same patterns (IsInside patterns range) (IsMet patterns range range.low) range.answer is.least
      (λ i inside. inl inside) (λ i either. grind arith))

-- a range has no children whose patterns have all ended, and none are appended to the places
pub added_none : (patterns : List Pattern) (ranges : List PatternRange) (range : PatternRange)
    → ((i : ℕ) → range.low ≤ i → i < range.high → length (text patterns i) ≡ range.depth) → below patterns range ≡ 0
    → AreAdded patterns ranges ranges range 1 false
added_none patterns ranges range ended none = record {
  kids = [];
  are = sym (append-nil ranges);
  all = search rules;
  few = omega arith;
  counted = sym none;
}

-- the node of a range
pub expanded : (patterns : List Pattern) (old new : List PatternRange) (range : PatternRange)
    (answer label lowest width : ℕ) (is_sparse : Bool) → answer ≤ no_answer
    → (IsPatternRange patterns range → IsLeast patterns (IsUpto patterns range) answer)
    → (range.low < range.high → label + range.length ≡ (pattern_at patterns range.low).start + range.depth)
    → (range.low ≡ range.high → label ≡ 0) → 1 ≤ lowest → width ≡ length new - length old
    → AreAdded patterns old new range lowest is_sparse
    → IsExpanded patterns old new range (record {
      answer = answer;
      label = label;
      length = range.length;
      base = length old;
      width = width;
      low_byte = lowest;
      first_byte = range.first_byte;
      is_sparse = is_sparse;
    })
expanded patterns old new range answer label lowest width is_sparse top least stands bare low wide added =
    let kids : width ≡ length added.kids = omega (arith, ap length added.are ∙ length-append old added.kids) in
    let few : lowest + width ≤ 256 = omega (arith, added.few, kids) in
    search rules
