-- The children of a range, appended one after the other.
use Rattle.std.proofs.Common.{◌≡◌, ◌≢◌, Bool, true, false, ℕ, ◌+◌, ◌-◌, ◌<◌, ◌≤◌, List, []}
use Rattle.std.proofs.Common.{◌∷◌, ◌++◌, length, inl, inr, sym, ap, subst, ◌∙◌, arith, sum_by, replicate, refl}
use Rattle.std.proofs.Common.{◌*◌, append_assoc, append-nil, length-append}
use Rattle.std.proofs.lemmas.Bool.{cases_lt, cases_Bool}
use Rattle.std.proofs.lemmas.List.{get_or_append_left, get_or-append_right, get_or-replicate, length-replicate, length_push}
use Rattle.std.proofs.lemmas.List.Elements.{All-append, All-nil, All-push, All-replicate}
use Rattle.std.proofs.Math.Seq.{get_or-append_seam}
use Rattle.std.proofs.lemmas.List.Folds.{sum_by-replicate}
use Rattle.std.proofs.lemmas.List.Sums.{sum_by-append, sum_by_push}
use Rattle.virtiofs_map.specs.TrieBuildParts.{AreReady, GoOnFrom, IsLeast, IsUpto, IsPatternRange, IsKidOrHole}
use Rattle.virtiofs_map.specs.TrieBuildParts.{AreAdded, AreKids, IsGroup, IsKid, below, range_at, hole, next_of, path_of_range, texts_of}
use Rattle.virtiofs_map.specs.PatternTrie.{are_sparse, last_byte, next_bytes, places}
use Rattle.virtiofs_map.specs.declared.xattrmap.trie.build.PatternRange.{PatternRange}
use Rattle.virtiofs_map.specs.declared.xattrmap.trie.patterns.Pattern.{Pattern}
use Rattle.virtiofs_map.proofs.xattrmap.trie.build.FirstBytesLemmas.{AreFirstBytes, all_met, bytes_more, first_bytes}
use Rattle.virtiofs_map.proofs.xattrmap.trie.build.FirstBytesLemmas.{first_bytes_all, first_bytes_more, first_bytes_none}
use Rattle.virtiofs_map.proofs.xattrmap.trie.build.FirstBytesLemmas.{no_first_bytes}
use Rattle.virtiofs_map.proofs.xattrmap.trie.build.KidLemmas.{kid_range}
use Rattle.virtiofs_map.proofs.xattrmap.trie.build.PlacesLemmas.{below_hole, deep_of, kid_below, range_below}
use Rattle.virtiofs_map.proofs.xattrmap.trie.build.RangePathLemmas.{row}

-- children of a range for its patterns before one were appended to the places; they are those for its first bytes, and
-- below them is what is below these
pub record AreFound (patterns : List Pattern) (range : PatternRange) (from lowest : ℕ) (is_sparse : Bool) (low : ℕ)
    (old new : List PatternRange) : Type 0 where
  pub kids : List PatternRange
  pub are : new ≡ old ++ kids
  pub upto : ℕ
  pub bytes : AreFirstBytes patterns range from lowest low upto
  pub all : AreKids patterns kids range lowest is_sparse low
  pub sparse : is_sparse ≡ true → length kids ≡ length (first_bytes patterns range upto)
  pub dense : is_sparse ≡ false → length kids + lowest ≡ upto
  pub below : sum_by (below patterns) kids ≡ sum_by (deep_of patterns range) (first_bytes patterns range upto)

-- a child more, behind holes
kids_more : {patterns : List Pattern} {range : PatternRange} {lowest : ℕ} {is_sparse : Bool}
    {kids : List PatternRange} (kid : PatternRange) → AreKids patterns kids range lowest is_sparse kid.low → (holes : ℕ)
    → IsPatternRange patterns kid → IsKid patterns range kid
    → (is_sparse ≡ false → kid.first_byte ≡ lowest + length (kids ++ replicate holes hole))
    → AreKids patterns ((kids ++ replicate holes hole) ++ kid ∷ []) range lowest is_sparse kid.high
kids_more {patterns} {range} {lowest} {is_sparse} {kids} kid all holes is_range is stands = record {
  each = All-push (IsKidOrHole patterns range) front kid
      (All-append (IsKidOrHole patterns range) kids (replicate holes hole) all.each
      (All-replicate (IsKidOrHole patterns range) holes hole (inr refl))) (inl (is_range, is));
  placed = λ dense at below real. elim (cases_lt at (length front)) [
    | inl b ↦ elim (cases_lt at (length kids)) [
      | inl first ↦ ap (λ (p : PatternRange). p.first_byte) (kept at first)
          ∙ all.placed dense at first (λ z. real (ap (λ (p : PatternRange). p.first_byte) (kept at first) ∙ z))
      | inr past ↦ absurd (real (ap (λ (p : PatternRange). p.first_byte) (
          get_or_append_left front (kid ∷ []) hole at b
          ∙ get_or-append_right kids (replicate holes hole) (length kids) at hole refl past
          ∙ get_or-replicate holes (at - length kids) hole hole
          (omega (arith, size, past, length-replicate holes hole)))))
    ]
    | inr g ↦
        (let last : at ≡ length front = omega (arith, below, length_push front kid) in
        ap (λ n. (range_at (front ++ kid ∷ []) n).first_byte) last
        ∙ ap (λ (p : PatternRange). p.first_byte) (get_or-append_seam front kid [] hole)
        ∙ omega (arith, stands dense, last))
  ];
  complete = λ i from below longer. elim (cases_lt i kid.low) [
    | inl before ↦
        (let has = all.complete i from before longer in (
          has.0,
          omega (arith, has.1, size, length_push front kid),
          ap (λ (p : PatternRange). p.first_byte) (kept has.0 has.1) ∙ has.2,
        ))
    | inr g ↦ (
      length front,
      omega (arith, length_push front kid),
      ap (λ (p : PatternRange). p.first_byte) (get_or-append_seam front kid [] hole) ∙ is.first_byte ∙ sym (is.group.bytes i g below),
    )
  ];
} where
  front : List PatternRange
  front = kids ++ replicate holes hole

  size : length front ≡ length kids + length (replicate holes hole)
  size = length-append kids (replicate holes hole)

  kept : (at : ℕ) → at < length kids → range_at (front ++ kid ∷ []) at ≡ range_at kids at
  kept at first = get_or_append_left front (kid ∷ []) hole at (omega (arith, size, first))
      ∙ get_or_append_left kids (replicate holes hole) hole at first

-- as many places are appended as the bytes have
placed_count : (size lowest upto : ℕ) (is_sparse : Bool) (bytes : List ℕ) → upto ≡ last_byte lowest bytes + 1
    → is_sparse ≡ are_sparse (lowest ∷ bytes) → (is_sparse ≡ true → size ≡ length (lowest ∷ bytes))
    → (is_sparse ≡ false → size + lowest ≡ upto) → size ≡ places (lowest ∷ bytes)
unfolding places
placed_count size lowest upto is_sparse bytes last sparse some none = grind (arith, cases_Bool)

module _ {most : ℕ} {patterns : List Pattern} (ready : AreReady most patterns) {range : PatternRange}
    (is : IsPatternRange patterns range) {from : ℕ} (on : GoOnFrom patterns range from) where
  -- none yet
  pub found_none : (ranges : List PatternRange) (lowest : ℕ) (is_sparse : Bool) → lowest ≡ next_of patterns range from
      → AreFound patterns range from lowest is_sparse from ranges ranges
  found_none ranges lowest is_sparse e =
      subst (λ n. AreFound patterns range from n is_sparse from ranges ranges) (sym e) record {
        kids = [];
        are = sym (append-nil ranges);
        upto = next_of patterns range from;
        bytes = first_bytes_none ready is on;
        all = record {
          each = All-nil (IsKidOrHole patterns range);
          placed = λ dense at below. absurd (omega arith);
          complete = λ i a b longer. absurd (omega (arith, on.ended i a b));
        };
        sparse = λ _. ap length (sym (no_first_bytes ready is on));
        dense = λ _. omega arith;
        below = ap (sum_by (deep_of patterns range)) (sym (no_first_bytes ready is on));
      }

  module _ {lowest : ℕ} {is_sparse : Bool} {old : List PatternRange} where
    -- a child more, behind holes
    pub found_more : (mid new : List PatternRange) (kid : PatternRange) (holes : ℕ)
        → AreFound patterns range from lowest is_sparse kid.low old mid
        → IsLeast patterns (IsUpto patterns range) kid.answer → IsKid patterns range kid → from ≤ kid.low
        → new ≡ (mid ++ replicate holes hole) ++ kid ∷ []
        → (is_sparse ≡ true → holes ≡ 0)
        → (is_sparse ≡ false → length mid + holes + lowest ≡ length old + kid.first_byte)
        → AreFound patterns range from lowest is_sparse kid.high old new
    found_more mid new kid holes found least cut past whole sparse dense =
        let other : kid.high < range.high → next_of patterns range kid.high ≢ next_of patterns range kid.low =
        λ more same. omega (arith, (cut.group.all kid.high (omega (arith, cut.group.from, cut.group.some)) more same).1) in
        let size = ap length found.are ∙ length-append old found.kids in
        let more = bytes_more ready is on lowest kid.low found.upto found.bytes kid.high past cut.group.some cut.group.upto cut.group.bytes
        other in
        let count = ap length more
        ∙ length_push (first_bytes patterns range found.upto) (next_of patterns range kid.low) in
        let long = length_push (found.kids ++ replicate holes hole) kid in
        let parts = length-append found.kids (replicate holes hole) in
        let all = length-replicate holes hole in
        record {
          kids = (found.kids ++ replicate holes hole) ++ kid ∷ [];
          are = whole ∙ ap (λ (l : List PatternRange). (l ++ replicate holes hole) ++ kid ∷ []) found.are
              ∙ simp append_assoc;
          upto = next_of patterns range kid.low + 1;
          bytes = first_bytes_more ready is on lowest kid.low found.upto found.bytes kid.high past cut.group.some cut.group.upto
              cut.group.bytes other;
          all = kids_more kid found.all holes (kid_range ready is least cut) cut (λ e. omega (arith, dense e, size, parts, all));
          sparse = λ e. omega (arith, found.sparse e, sparse e, count, long, parts, all);
          dense = λ e. omega (arith, dense e, size, cut.first_byte, long, parts, all);
          below = omega (
            arith,
            sum_by_push (below patterns) (found.kids ++ replicate holes hole) kid,
            sum_by-append (below patterns) found.kids (replicate holes hole),
            sum_by-replicate (below patterns) holes hole ∙ ap (λ n. holes * n) (below_hole patterns),
            found.below,
            kid_below ready is least cut ∙ ap (deep_of patterns range) cut.first_byte,
            ap (sum_by (deep_of patterns range)) more,
            sum_by_push (deep_of patterns range) (first_bytes patterns range found.upto) (next_of patterns range kid.low),
          );
        }

    -- all of them
    pub found_all : (low : ℕ) (new : List PatternRange) → AreFound patterns range from lowest is_sparse low old new
        → range.high ≤ low → low ≤ range.high
        → is_sparse ≡ are_sparse (next_bytes (texts_of patterns) (path_of_range patterns range))
        → AreAdded patterns old new range lowest is_sparse
    found_all low new found past upto sparse =
        let met = all_met ready is on lowest low found.upto found.bytes past upto in
        let bytes = first_bytes_all ready is on lowest low found.upto found.bytes past ∙ met.are in
        let same : low ≡ range.high = omega arith in
        let counted = placed_count (length found.kids) lowest found.upto is_sparse met.rest met.last
        (sparse ∙ ap are_sparse bytes) (λ e. found.sparse e ∙ ap length met.are) found.dense in
        let whole = range_below ready is
        ∙ ap (λ bytes. places bytes + sum_by (deep_of patterns range) bytes) bytes in
        record {
          kids = found.kids;
          are = found.are;
          all = subst (AreKids patterns found.kids range lowest is_sparse) same found.all;
          few = elim (cases_Bool is_sparse) [
            | inl e ↦ omega (arith, found.sparse e, found.bytes.few, found.bytes.small)
            | inr e ↦ omega (arith, found.dense e, found.bytes.small)
          ];
          counted = omega (arith, counted, whole, found.below, ap (sum_by (deep_of patterns range)) met.are);
        }

module _ {most : ℕ} {patterns : List Pattern} (ready : AreReady most patterns) {range : PatternRange}
    (is : IsPatternRange patterns range) where
  -- the patterns with a byte stand side by side
  whole_group : (upto high : ℕ) → range.low ≤ upto → upto < high
      → (high < range.high → next_of patterns range high ≢ next_of patterns range upto)
      → ((i : ℕ) → range.low ≤ i → i < upto → next_of patterns range i < next_of patterns range upto)
      → (i : ℕ) → range.low ≤ i → i < range.high → next_of patterns range i ≡ next_of patterns range upto
      → (upto ≤ i) × (i < high)
  whole_group upto high from some other apart i a b same = grind (arith, cases_lt, row)

  pub is_group : (low high : ℕ) → range.low ≤ low → low < high → high ≤ range.high
      → ((i : ℕ) → low ≤ i → i < high → next_of patterns range i ≡ next_of patterns range low)
      → (high < range.high → next_of patterns range high ≢ next_of patterns range low)
      → ((i : ℕ) → range.low ≤ i → i < low → next_of patterns range i < next_of patterns range low)
      → IsGroup patterns range low high
  is_group low high from some upto bytes other apart = record {
    from = from;
    some = some;
    upto = upto;
    bytes = bytes;
    all = whole_group low high from some other apart;
  }
