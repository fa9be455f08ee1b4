-- The patterns that begin with the path of a range, and those that go on after it.
use Rattle.std.proofs.Common.{◌≡◌, ℕ, ◌+◌, ◌<◌, ◌≤◌, Bool, true, List, [], ◌∷◌, ◌++◌, length, take, drop}
use Rattle.std.proofs.Common.{get_or, sym, ap, subst, ◌∙◌, arith, append_assoc, length-append}
use Rattle.std.specs.List.{list_any}
use Rattle.std.proofs.lemmas.List.{take-append-drop, take_at, length-map, length-take, length-take-le, drop_more, get_or-map}
use Rattle.std.proofs.lemmas.List.Folds.{Any-from_list_any, list_any_at}
use Rattle.std.proofs.Math.Seq.{get_or-append_seam}
use Rattle.virtiofs_map.specs.TrieBuildParts.{text, AreReady, IsPatternRange, path_of_range, texts_of}
use Rattle.virtiofs_map.specs.Names.{begins}
use Rattle.virtiofs_map.specs.PatternTrie.{leads}
use Rattle.virtiofs_map.specs.declared.xattrmap.trie.build.PatternRange.{PatternRange}
use Rattle.virtiofs_map.specs.declared.xattrmap.trie.patterns.Pattern.{Pattern}
use Rattle.virtiofs_map.proofs.BeginsLemmas.{begins_split, begins_from, begins_trans, begins-append}
use Rattle.virtiofs_map.proofs.xattrmap.trie.build.PatternOrderLemmas.{goes_on, no_zero}

-- ---- a test of texts

-- some pattern's bytes pass the test
pub record IsPassed (patterns : List Pattern) (p : List ℕ → Bool) : Type 0 where
  pub at : ℕ
  pub within : at < length patterns
  pub passes : p (text patterns at) ≡ true

pub passed : (patterns : List Pattern) (p : List ℕ → Bool) → list_any p (texts_of patterns) ≡ true → IsPassed patterns p
passed patterns p some =
    let (at, text_is, below, is, passes) = Any-from_list_any p (texts_of patterns) some in
    let within : at < length patterns = omega (arith, below, length-map patterns (λ (one : Pattern). one.bytes.now)) in
    record {
      at = at;
      within = within;
      passes = ap p (sym (get_or-map (λ (one : Pattern). one.bytes.now) patterns at _ text_is within) ∙ is) ∙ passes;
    }

pub passed_by : (patterns : List Pattern) (p : List ℕ → Bool) (at : ℕ) → at < length patterns
    → p (text patterns at) ≡ true → list_any p (texts_of patterns) ≡ true
passed_by patterns p at within passes =
    list_any_at p (texts_of patterns) at [] (omega (arith, length-map patterns (λ (one : Pattern). one.bytes.now)))
    (ap p (get_or-map (λ (one : Pattern). one.bytes.now) patterns at _ [] within) ∙ passes)

-- ---- fronts of patterns

-- a text that begins with a front and a byte has that byte there
pub byte_there : (front text : List ℕ) (byte n : ℕ) → length front ≡ n → begins (front ++ byte ∷ []) text ≡ true
    → (n < length text) × (get_or text n 0 ≡ byte)
byte_there front text byte n size starts =
    let rest = drop (length (front ++ byte ∷ [])) text in
    let split : text ≡ front ++ (byte ∷ rest) = begins_split (front ++ byte ∷ []) text starts
    ∙ append_assoc front (byte ∷ []) rest in
    let long = ap length split ∙ length-append front (byte ∷ rest) in (
      omega (arith, long),
      ap (λ (s : List ℕ). get_or s n 0) split
          ∙ subst (λ m. get_or (front ++ (byte ∷ rest)) m 0 ≡ byte) size (get_or-append_seam front byte rest 0),
    )

-- a front, the byte after it, and what follows
split_at : (d : ℕ) (s : List ℕ) → d < length s → s ≡ take d s ++ get_or s d 0 ∷ drop (d + 1) s
split_at d s l = sym (take-append-drop d s) ∙ ap (λ t. take d s ++ t) (drop_more s d 0 l)

module _ {most : ℕ} {patterns : List Pattern} (ready : AreReady most patterns) {range : PatternRange}
    (is : IsPatternRange patterns range) where
  pub path_size : length (path_of_range patterns range) ≡ range.depth
  path_size = grind (arith, length-take, length-take-le)

  -- the byte with which a pattern of the range goes on leads on
  pub in_leads : (i byte : ℕ) → range.low ≤ i → i < range.high → range.depth < length (text patterns i)
      → get_or (text patterns i) range.depth 0 ≡ byte
      → leads (texts_of patterns) (path_of_range patterns range ++ byte ∷ []) ≡ true
  unfolding leads
  in_leads i byte from upto longer next =
      let rest = drop (range.depth + 1) (text patterns i) in
      let whole : text patterns i ≡ (path_of_range patterns range ++ byte ∷ []) ++ rest =
      grind (arith, split_at, append_assoc) in
      passed_by patterns (begins (path_of_range patterns range ++ byte ∷ [])) i (omega (arith, is.within))
      (begins_from (path_of_range patterns range ++ byte ∷ []) (text patterns i) rest whole)

  -- and a byte that leads on is the one with which a pattern of the range goes on
  pub goes_in : (i byte : ℕ) → i < length patterns
      → begins (path_of_range patterns range ++ byte ∷ []) (text patterns i) ≡ true
      → (range.low ≤ i) × (i < range.high) × (range.depth < length (text patterns i))
      × (get_or (text patterns i) range.depth 0 ≡ byte)
  goes_in i byte within b =
      let path = path_of_range patterns range in
      let starts = begins_trans path (path ++ byte ∷ []) (text patterns i) (begins-append path (byte ∷ [])) b in
      let front : take range.depth (text patterns i) ≡ path =
      ap (take range.depth) (begins_split path (text patterns i) starts)
      ∙ take_at path (drop (length path) (text patterns i)) range.depth path_size in
      let inside = is.whole i within front in
      let next = byte_there path (text patterns i) byte range.depth path_size b in
      (inside.0, inside.1, next.0, next.1)

  pub leads_in : (byte : ℕ) → leads (texts_of patterns) (path_of_range patterns range ++ byte ∷ []) ≡ true
      → (i : ℕ) × (range.low ≤ i) × (i < range.high) × (get_or (text patterns i) range.depth 0 ≡ byte)
  unfolding leads
  leads_in byte led =
      let found = passed patterns (begins (path_of_range patterns range ++ byte ∷ [])) led in
      let goes = goes_in found.at byte found.within found.passes in
      (found.at, goes.0, goes.1, goes.3)

  -- the bytes after the path of a range rise
  pub row : (i j : ℕ) → range.low ≤ i → i ≤ j → j < range.high
      → get_or (text patterns i) range.depth 0 ≤ get_or (text patterns j) range.depth 0
  row i j l le u =
      ready.rising i j range.depth le (omega (arith, is.within))
      (is.same i l (omega arith) ∙ sym (is.same j (omega arith) u))

  -- from a pattern on that is longer than the path, all are
  pub longer_on : (from i : ℕ) → range.low ≤ from → from ≤ i → i < range.high → range.depth < length (text patterns from)
      → range.depth < length (text patterns i)
  longer_on from i l a u longer =
      let full = no_zero ready from range.depth (omega (arith, is.within)) longer in
      goes_on ready i range.depth (λ z. full (omega (arith, row from i l a u)))
