-- How many places are below a range: those of its children, and those that are below these.
use Rattle.std.proofs.Common.{◌≡◌, ◌≢◌, ◌⊎◌, ℕ, zero, suc, ◌+◌, ◌-◌, ◌<◌, ◌≤◌, Bool, true, false, ◌&&◌, not}
use Rattle.std.proofs.Common.{nat_lt, nat_eq, List, [], ◌∷◌, ◌++◌, length, take, drop, get_or, sum_by}
use Rattle.std.proofs.Common.{refl, sym, ap, ◌∙◌, arith, eq-eqb, length-append, append_assoc, append-nil, inl}
use Rattle.std.proofs.Common.{inr, rules}
use Rattle.std.proofs.lemmas.Bool.{cases_Bool, cases_lt, and_parts, and_from, eqb-true, false_from_ne_true}
use Rattle.std.proofs.lemmas.Bool.{lt-ltb, ltb-true, ne_eqb, true≢false}
use Rattle.std.proofs.lemmas.Bool.Decides.{Decides-eqb}
use Rattle.std.proofs.lemmas.List.{take-append-drop, length-take-le}
use Rattle.std.proofs.lemmas.List.Sums.{sum_by-cons}
use Rattle.virtiofs_map.specs.TrieBuildParts.{text, AreReady, IsLeast, IsUpto, IsPatternRange, IsRangeOrHole, IsKid}
use Rattle.virtiofs_map.specs.TrieBuildParts.{below, hole, next_of, path_of_range, texts_of}
use Rattle.virtiofs_map.specs.Names.{begins}
use Rattle.virtiofs_map.specs.PatternTrie.{leads, ends, next_bytes, places, goes_on}
use Rattle.virtiofs_map.specs.PatternTrie.{longest_label, places_below}
use Rattle.virtiofs_map.specs.declared.xattrmap.trie.build.PatternRange.{PatternRange}
use Rattle.virtiofs_map.specs.declared.xattrmap.trie.patterns.Pattern.{Pattern}
use Rattle.virtiofs_map.proofs.BeginsLemmas.{begins_from, begins_trans, begins-append}
use Rattle.virtiofs_map.proofs.xattrmap.trie.NextByteLemmas.{IsOne, filter_has, met_none, met_sole}
use Rattle.virtiofs_map.proofs.xattrmap.trie.build.KidLemmas.{all_same, kid_path as is_path, kid_range}
use Rattle.virtiofs_map.proofs.xattrmap.trie.build.PatternOrderLemmas.{no_zero, small, goes_on as longer_by}
use Rattle.virtiofs_map.proofs.xattrmap.trie.build.RangePathLemmas.{IsPassed, byte_there, passed, passed_by, path_size, in_leads}
use Rattle.virtiofs_map.proofs.xattrmap.trie.build.RangePathLemmas.{goes_in, leads_in}

-- ---- one level

module _ (texts : List (List ℕ)) (path : List ℕ) (levels room : ℕ) where
  below_label : goes_on room texts path ≡ true
      → places_below (suc levels) room texts path
      ≡ sum_by (λ byte. places_below levels (room - 1) texts (path ++ byte ∷ [])) (next_bytes texts path)
  unfolding places_below
  below_label e = search rules

  below_node : goes_on room texts path ≡ false
      → places_below (suc levels) room texts path
      ≡ places (next_bytes texts path)
      + sum_by (λ byte. places_below levels longest_label texts (path ++ byte ∷ [])) (next_bytes texts path)
  unfolding places_below
  below_node e = search rules

-- where a label does not go on, it makes no difference how long it may be
no_room : (texts : List (List ℕ)) (path : List ℕ) (levels room : ℕ) → goes_on room texts path ≡ false
    → places_below levels room texts path ≡ places_below levels 0 texts path
unfolding places_below goes_on
no_room texts path zero room e = refl
no_room texts path (suc levels) room e = below_node texts path levels room e ∙ sym (below_node texts path levels 0 refl)

-- ---- a label

goes : (texts : List (List ℕ)) (front : List ℕ) (room byte : ℕ) → ends texts front ≡ false
    → next_bytes texts front ≡ byte ∷ [] → goes_on (suc room) texts front ≡ true
unfolding goes_on
goes texts front room byte open' next = rw (open', next, lt-ltb 0 (suc room) (omega arith))

-- one number alone is each of them
only_one : (byte x : ℕ) → IsOne (byte ∷ []) x → x ≡ byte
only_one byte x (zero, e) = cc
only_one byte x (suc k, e) = absurd cc

same_one : (xs : List ℕ) (x y : ℕ) → length xs ≡ 1 → IsOne xs x → IsOne xs y → x ≡ y
same_one [] x y one a b = absurd (omega arith)
same_one (z ∷ []) x y one a b = only_one z x a ∙ sym (only_one z y b)
same_one (z ∷ w ∷ xs) x y one a b = absurd (omega arith)

abbrev levels_of : List Pattern → ℕ
levels_of patterns = sum_by length (texts_of patterns)

-- what is below the child of a range for a byte
abbrev pub deep_of : List Pattern → PatternRange → ℕ → ℕ
deep_of patterns range byte =
    places_below (levels_of patterns - range.depth) longest_label (texts_of patterns)
    (path_of_range patterns range ++ byte ∷ [])

below_real : (patterns : List Pattern) (range : PatternRange) → (range.depth ≡ 0) ⊎ (range.low < range.high)
    → below patterns range
    ≡ places_below (suc (levels_of patterns) - range.depth) 0 (texts_of patterns) (path_of_range patterns range)
unfolding below
below_real patterns range some = search (rules, Decides-eqb, cases_Bool, ne_eqb)

pub below_hole : (patterns : List Pattern) → below patterns hole ≡ 0
unfolding below
below_hole patterns = refl

-- a pattern has no more bytes than all
no_deeper : (patterns : List Pattern) (i : ℕ) → i < length patterns → length (text patterns i) ≤ levels_of patterns
no_deeper [] i l = absurd (omega arith)
no_deeper (one ∷ patterns) zero l = omega (arith, sum_by-cons length one.bytes.now (texts_of patterns))
no_deeper (one ∷ patterns) (suc i) l =
    omega (arith, sum_by-cons length one.bytes.now (texts_of patterns), no_deeper patterns i (omega arith))

not_true : (b : Bool) → not b ≡ true → b ≡ false
not_true true e = absurd (true≢false (sym e))
not_true false e = refl

module _ {most : ℕ} {patterns : List Pattern} (ready : AreReady most patterns) where
  -- a byte with which patterns go on alone
  sole : (front label : List ℕ) (byte at : ℕ) → at < length patterns
      → begins (front ++ byte ∷ label) (text patterns at) ≡ true
      → ((i : ℕ) → i < length patterns → begins front (text patterns i) ≡ true
      → begins (front ++ byte ∷ label) (text patterns i) ≡ true)
      → (ends (texts_of patterns) front ≡ false) × (next_bytes (texts_of patterns) front ≡ byte ∷ [])
  unfolding ends next_bytes leads
  sole front label byte at within here all = (
    false_from_ne_true (ends (texts_of patterns) front) (λ e. ended (passed patterns (λ t. begins front t && nat_eq (length t) (length front)) e)),
    met_sole (λ b. leads (texts_of patterns) (front ++ b ∷ [])) byte
        (omega (arith, no_zero ready at (length front) within there.0, there.1))
        (omega (arith, small ready at (length front) within, there.1))
        (passed_by patterns (begins (front ++ byte ∷ [])) at within (first at here))
        (λ x led. other x (passed patterns (begins (front ++ x ∷ [])) led)),
  ) where
    first : (i : ℕ) → begins (front ++ byte ∷ label) (text patterns i) ≡ true
        → begins (front ++ byte ∷ []) (text patterns i) ≡ true
    first i b = begins_trans (front ++ byte ∷ []) (front ++ byte ∷ label) (text patterns i)
        (begins_from (front ++ byte ∷ []) (front ++ byte ∷ label) label (sym (append_assoc front (byte ∷ []) label))) b

    there : (length front < length (text patterns at)) × (get_or (text patterns at) (length front) 0 ≡ byte)
    there = byte_there front (text patterns at) byte (length front) refl (first at here)

    ended : IsPassed patterns (λ t. begins front t && nat_eq (length t) (length front)) → ⊥
    ended found =
        let both = and_parts (begins front (text patterns found.at))
        (nat_eq (length (text patterns found.at)) (length front)) found.passes in
        let long = (byte_there front (text patterns found.at) byte (length front) refl
        (first found.at (all found.at found.within both.0))).0 in
        omega (arith, long, eqb-true (length (text patterns found.at)) (length front) both.1)

    other : (x : ℕ) → IsPassed patterns (begins (front ++ x ∷ [])) → x ≡ byte
    other x found =
        let starts = begins_trans front (front ++ x ∷ []) (text patterns found.at) (begins-append front (x ∷ []))
        found.passes in
        let one = byte_there front (text patterns found.at) byte (length front) refl
        (first found.at (all found.at found.within starts)) in
        let same = byte_there front (text patterns found.at) x (length front) refl found.passes in
        sym same.1 ∙ one.1

  -- no place is between the bytes of a label
  label_passed : (front label : List ℕ) (levels room at : ℕ) → length label ≤ room → at < length patterns
      → begins (front ++ label) (text patterns at) ≡ true
      → ((i : ℕ) → i < length patterns → begins front (text patterns i) ≡ true
      → begins (front ++ label) (text patterns i) ≡ true)
      → places_below (length label + levels) room (texts_of patterns) front
      ≡ places_below levels (room - length label) (texts_of patterns) (front ++ label)
  label_passed front [] levels room at short within here all =
      let deep : 0 + levels ≡ levels = omega arith in
      let same : room - 0 ≡ room = omega arith in
      rw (deep, same, append-nil front)
  label_passed front (byte ∷ label) levels zero at short within here all = absurd (omega arith)
  label_passed front (byte ∷ label) levels (suc room) at short within here all =
      let texts = texts_of patterns in
      let (open', next) = sole front label byte at within here all in
      let joined = append_assoc front (byte ∷ []) label in
      let more : length (byte ∷ label) + levels ≡ suc (length label + levels) = omega arith in
      let less : suc room - 1 ≡ room = omega arith in
      let left : room - length label ≡ suc room - length (byte ∷ label) = omega arith in
      let deep : ℕ → ℕ = λ b. places_below (length label + levels) room texts (front ++ b ∷ []) in
      let one : sum_by deep (byte ∷ []) ≡ deep byte = omega arith in
      ap (λ n. places_below n (suc room) texts front) more
      ∙ below_label texts front (length label + levels) (suc room) (goes texts front room byte open' next)
      ∙ ap (λ r. sum_by (λ b. places_below (length label + levels) r texts (front ++ b ∷ [])) (next_bytes texts front)) less
      ∙ ap (sum_by deep) next
      ∙ one
      ∙ label_passed (front ++ byte ∷ []) label levels room at (omega arith) within
      (ap (λ w. begins w (text patterns at)) joined ∙ here)
      (λ i l b. ap (λ w. begins w (text patterns i)) joined ∙ all i l
      (begins_trans front (front ++ byte ∷ []) (text patterns i) (begins-append front (byte ∷ [])) b))
      ∙ ap (places_below levels (room - length label) texts) joined
      ∙ ap (λ r. places_below levels r texts (front ++ byte ∷ label)) left

  -- ---- a range

  module _ {range : PatternRange} (is : IsPatternRange patterns range) where
    abbrev next : List ℕ
    next = next_bytes (texts_of patterns) (path_of_range patterns range)

    abbrev deep : ℕ → ℕ
    deep = deep_of patterns range

    not_deep : range.depth ≤ levels_of patterns
    not_deep = elim is.some [
      | inl z ↦ omega arith
      | inr l ↦ omega (arith, is.long range.low (omega arith) l, no_deeper patterns range.low (omega (arith, is.within)))
    ]

    real_below : below patterns range
        ≡ places_below (suc (levels_of patterns) - range.depth) 0 (texts_of patterns) (path_of_range patterns range)
    real_below = below_real patterns range is.some

    -- the places of its children, and what is below them
    pub range_below : below patterns range ≡ places next + sum_by deep next
    unfolding goes_on
    range_below =
        let levels : suc (levels_of patterns) - range.depth ≡ suc (levels_of patterns - range.depth) = omega (arith, not_deep) in
        real_below
        ∙ ap (λ n. places_below n 0 (texts_of patterns) (path_of_range patterns range)) levels
        ∙ below_node (texts_of patterns) (path_of_range patterns range) (levels_of patterns - range.depth) 0 refl

    -- none where no pattern goes on
    none_on : ((i : ℕ) → range.low ≤ i → i < range.high → length (text patterns i) ≡ range.depth) → next ≡ []
    unfolding next_bytes
    none_on ended =
        met_none (λ byte. leads (texts_of patterns) (path_of_range patterns range ++ byte ∷ [])) 1 256 (omega arith)
        (omega arith)
        (λ x a b. false_from_ne_true (leads (texts_of patterns) (path_of_range patterns range ++ x ∷ [])) (λ led.
        let at = leads_in ready is x led in
        omega (arith, longer_by ready at.0 range.depth (λ z. omega (arith, at.3)), ended at.0 at.1 at.2)))

    pub ended_below : ((i : ℕ) → range.low ≤ i → i < range.high → length (text patterns i) ≡ range.depth)
        → below patterns range ≡ 0
    unfolding places
    ended_below ended = range_below ∙ ap (λ bytes. places bytes + sum_by deep bytes) (none_on ended)

    -- where no pattern ends with the path of the range, each goes on
    goes_past : ends (texts_of patterns) (path_of_range patterns range) ≡ false → (i : ℕ) → range.low ≤ i
        → i < range.high → range.depth < length (text patterns i)
    unfolding ends
    goes_past open' i l u = elim (cases_lt range.depth (length (text patterns i))) [
      | inl longer ↦ longer
      | inr g ↦ absurd (true≢false (sym
          (passed_by patterns
          (λ t. begins (path_of_range patterns range) t && nat_eq (length t) (length (path_of_range patterns range)))
          i (omega (arith, is.within))
          (and_from (begins (path_of_range patterns range) (text patterns i))
          (nat_eq (length (text patterns i)) (length (path_of_range patterns range)))
          (begins_from (path_of_range patterns range) (text patterns i) (drop range.depth (text patterns i))
          (sym (take-append-drop range.depth (text patterns i))
          ∙ ap (λ w. w ++ drop range.depth (text patterns i)) (is.same i l u)))
          (eq-eqb (length (text patterns i)) (length (path_of_range patterns range))
          (omega (arith, path_size ready is, is.long i l u))))) ∙ open'))
    ]

    -- and its byte leads on
    one_next : (i : ℕ) → range.low ≤ i → i < range.high → range.depth < length (text patterns i)
        → IsOne next (next_of patterns range i)
    unfolding next_bytes
    one_next i l u longer =
        let within = is.within in
        filter_has (λ byte. leads (texts_of patterns) (path_of_range patterns range ++ byte ∷ [])) 1 255
        (next_of patterns range i)
        (omega (arith, no_zero ready i range.depth (omega arith) longer))
        (omega (arith, small ready i range.depth (omega arith)))
        (in_leads ready is i (next_of patterns range i) l u longer refl)

    -- a label ends where it may have no byte more, or the first and the last pattern go on with no byte alike
    label_ends : (room : ℕ) → range.low < range.high
        → (0 < room → range.depth < length (text patterns range.low)
        → range.depth < length (text patterns (range.high - 1))
        → next_of patterns range range.low ≢ next_of patterns range (range.high - 1))
        → goes_on room (texts_of patterns) (path_of_range patterns range) ≡ false
    unfolding goes_on
    label_ends room some apart = false_from_ne_true (goes_on room (texts_of patterns) (path_of_range patterns range)) (λ e.
        let ended = ends (texts_of patterns) (path_of_range patterns range) in
        let one = and_parts (nat_lt 0 room && not ended) (nat_eq (length next) 1) e in
        let more = and_parts (nat_lt 0 room) (not ended) one.0 in
        let past = goes_past (not_true ended more.1) in
        let last = range.high - 1 in
        let low = past range.low (omega arith) some in
        let high = past last (omega arith) (omega arith) in
        apart (ltb-true 0 room more.0) low high
        (same_one next (next_of patterns range range.low) (next_of patterns range last)
        (eqb-true (length next) 1 one.1) (one_next range.low (omega arith) some low)
        (one_next last (omega arith) (omega arith) high)))

-- where a range has no pattern, or is a hole, no place is below it
pub bare_below : {most : ℕ} {patterns : List Pattern} → AreReady most patterns → (range : PatternRange)
    → IsRangeOrHole patterns range → range.low ≡ range.high → below patterns range ≡ 0
bare_below {patterns = patterns} ready range place bare = elim place [
  | inl is ↦ ended_below ready is (λ i a b. absurd (omega arith))
  | inr hole ↦ ap (below patterns) hole ∙ below_hole patterns
]

-- ---- a child

module _ {most : ℕ} {patterns : List Pattern} (ready : AreReady most patterns) {range kid : PatternRange}
    (is : IsPatternRange patterns range) (least : IsLeast patterns (IsUpto patterns range) kid.answer)
    (cut : IsKid patterns range kid) where
  abbrev path : List ℕ
  path = path_of_range patterns range

  abbrev front : List ℕ
  front = path ++ kid.first_byte ∷ []

  abbrev label : List ℕ
  label = take kid.length (drop (range.depth + 1) (text patterns kid.low))

  kid_path : path_of_range patterns kid ≡ path ++ kid.first_byte ∷ label
  kid_path = is_path is cut

  label_size : length label ≡ kid.length
  label_size =
      let all = length-take-le kid.depth (text patterns kid.low) cut.long in
      let path_length = path_size ready is in
      omega (arith, ap length kid_path ∙ length-append path (kid.first_byte ∷ label), all, path_length, cut.depth)

  whole : (i : ℕ) → kid.low ≤ i → i < kid.high → begins (front ++ label) (text patterns i) ≡ true
  whole i l u =
      begins_from (front ++ label) (text patterns i) (drop kid.depth (text patterns i))
      (sym (take-append-drop kid.depth (text patterns i))
      ∙ ap (λ w. w ++ drop kid.depth (text patterns i))
      ((all_same ready is least cut i l u).0 ∙ kid_path
      ∙ sym (append_assoc path (kid.first_byte ∷ []) label)))

  -- as many places are below a child as are below the path of the range with its byte
  pub kid_below : below patterns kid ≡ deep_of patterns range kid.first_byte
  unfolding longest_label
  kid_below =
      let kid_is = kid_range ready is least cut in
      let some = cut.group.some in
      let size = label_size in
      let levels = levels_of patterns - range.depth - kid.length in
      let deepest : kid.depth ≤ levels_of patterns = not_deep ready kid_is in
      let at : suc (levels_of patterns) - kid.depth ≡ levels = omega (arith, cut.depth) in
      let all : levels_of patterns - range.depth ≡ length label + levels = omega (arith, cut.depth, size, deepest) in
      let joined : front ++ label ≡ path_of_range patterns kid =
      append_assoc path (kid.first_byte ∷ []) label ∙ sym kid_path in
      let goes_with : (i : ℕ) → i < length patterns → begins front (text patterns i) ≡ true
      → begins (front ++ label) (text patterns i) ≡ true =
      λ i l b. let in' = goes_in ready is i kid.first_byte l b in
      let group = cut.group.all i in'.0 in'.1 (in'.3 ∙ cut.first_byte) in
      whole i group.0 group.1 in
      real_below ready kid_is
      ∙ ap (λ n. places_below n 0 (texts_of patterns) (path_of_range patterns kid)) at
      ∙ sym (no_room (texts_of patterns) (path_of_range patterns kid) levels (255 - length label)
      (label_ends ready kid_is (255 - length label) some
      (λ room longer other same. cut.stops (omega (arith, size)) longer other same)))
      ∙ ap (places_below levels (255 - length label) (texts_of patterns)) (sym joined)
      ∙ sym (label_passed ready front label levels 255 kid.low (omega (arith, size, cut.size))
      (omega (arith, some, cut.group.upto, is.within)) (whole kid.low (omega arith) some) goes_with)
      ∙ ap (λ n. places_below n 255 (texts_of patterns) front) (sym all)
