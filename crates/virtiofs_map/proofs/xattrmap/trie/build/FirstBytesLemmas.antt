-- The bytes with which the patterns of a range go on, as they are passed in groups.
use Rattle.std.proofs.Common.{◌≡◌, ◌≢◌, ◌⊎◌, ℕ, ◌+◌, ◌-◌, ◌*◌, ◌<◌, ◌≤◌, ltb, Bool, false, List, [], ◌∷◌, ◌++◌}
use Rattle.std.proofs.Common.{length, refl, sym, ap, ◌∙◌, arith, inl, inr}
use Rattle.std.proofs.lemmas.Bool.{cases_lt, false_from_ne_true}
use Rattle.std.proofs.lemmas.List.{get_or_past, length_push}
use Rattle.virtiofs_map.specs.TrieBuildParts.{text, AreReady, GoOnFrom, IsPatternRange, next_of, path_of_range, texts_of}
use Rattle.virtiofs_map.specs.PatternTrie.{leads, next_bytes, last_byte, are_sparse}
use Rattle.virtiofs_map.specs.declared.xattrmap.trie.build.PatternRange.{PatternRange}
use Rattle.virtiofs_map.specs.declared.xattrmap.trie.patterns.Pattern.{Pattern}
use Rattle.virtiofs_map.proofs.xattrmap.trie.NextByteLemmas.{last_more, met, met_more, met_none}
use Rattle.virtiofs_map.proofs.xattrmap.trie.build.RangePathLemmas.{in_leads, leads_in, longer_on, row}
use Rattle.virtiofs_map.proofs.xattrmap.trie.build.PatternOrderLemmas.{no_zero, small}

-- the byte leads on from the path of a range
abbrev led_by : List Pattern → PatternRange → ℕ → Bool
led_by patterns range byte = leads (texts_of patterns) (path_of_range patterns range ++ byte ∷ [])

-- the bytes below one that lead on
abbrev pub first_bytes : List Pattern → PatternRange → ℕ → List ℕ
first_bytes patterns range = met (led_by patterns range)

-- some bytes were met: the first is the lowest, and the last is that of the pattern before a place
pub record AreMet (patterns : List Pattern) (range : PatternRange) (lowest low upto : ℕ) : Type 0 where
  pub rest : List ℕ
  pub are : first_bytes patterns range upto ≡ lowest ∷ rest
  pub last : upto ≡ last_byte lowest rest + 1
  pub top : upto ≡ next_of patterns range (low - 1) + 1

-- the patterns before a place go on with bytes below one, and those from there on with that byte or higher ones
pub record AreFirstBytes (patterns : List Pattern) (range : PatternRange) (from lowest low upto : ℕ) : Type 0 where
  pub some : 1 ≤ upto
  pub small : upto ≤ 256
  pub before : (i : ℕ) → range.low ≤ i → i < low → next_of patterns range i < upto
  pub after : (i : ℕ) → low ≤ i → i < range.high → upto ≤ next_of patterns range i
  pub few : length (first_bytes patterns range upto) + lowest ≤ upto
  pub met : ((low ≡ from) × (first_bytes patterns range upto ≡ []) × (next_of patterns range low ≡ lowest))
      ⊎ AreMet patterns range lowest low upto

-- there is such a byte, below which so many bytes lead on
pub record HaveFirstBytes (patterns : List Pattern) (range : PatternRange) (from lowest low count : ℕ) : Type 0 where
  pub upto : ℕ
  pub are : AreFirstBytes patterns range from lowest low upto
  pub counted : count ≡ length (first_bytes patterns range upto)

module _ {most : ℕ} {patterns : List Pattern} (ready : AreReady most patterns) {range : PatternRange}
    (is : IsPatternRange patterns range) {from : ℕ} (on : GoOnFrom patterns range from) where
  pub next_some : (i : ℕ) → from ≤ i → i < range.high → (range.depth < length (text patterns i))
      × (1 ≤ next_of patterns range i)
  next_some i a b =
      let long = longer_on ready is from i on.low a b on.longer in
      (long, omega (arith, no_zero ready i range.depth (omega (arith, is.within)) long))

  -- no byte leads on between the patterns before a place and those from there on
  none_between : (low upto : ℕ) → ((i : ℕ) → range.low ≤ i → i < low → next_of patterns range i < upto) → (b : ℕ)
      → upto ≤ b → ((i : ℕ) → low ≤ i → i < range.high → b < next_of patterns range i) → led_by patterns range b ≡ false
  none_between low upto before b above after = false_from_ne_true (led_by patterns range b) (λ led.
      let at = leads_in ready is b led in
      elim (cases_lt at.0 low) [
        | inl l ↦ omega (arith, before at.0 at.1 l, at.3)
        | inr g ↦ omega (arith, after at.0 g at.2, at.3)
      ])

  -- none yet
  before_any : (i : ℕ) → range.low ≤ i → i < from → next_of patterns range i < 1
  before_any i b l = omega (arith, get_or_past (text patterns i) range.depth 0 (omega (arith, on.ended i b l)))

  pub no_first_bytes : first_bytes patterns range (next_of patterns range from) ≡ []
  no_first_bytes =
      met_none (led_by patterns range) 1 (next_of patterns range from) (omega arith) (next_some from (omega arith) on.some).1
      (λ b a l. none_between from 1 before_any b a
      (λ i c d. omega (arith, row ready is from i on.low c d)))

  pub first_bytes_none : AreFirstBytes patterns range from (next_of patterns range from) from (next_of patterns range from)
  first_bytes_none =
      let some = (next_some from (omega arith) on.some).1 in
      record {
        some = some;
        small = omega (arith, small ready from range.depth (omega (arith, is.within)));
        before = λ i b l. omega (arith, before_any i b l);
        after = λ i b l. row ready is from i on.low b l;
        few = omega (arith, ap length no_first_bytes);
        met = inl (refl, no_first_bytes, refl);
      }

  module _ (lowest low upto : ℕ) (are : AreFirstBytes patterns range from lowest low upto) where
    -- the bytes before the place are lower than the one there
    pub first_bytes_apart : low < range.high → (i : ℕ) → range.low ≤ i → i < low
        → next_of patterns range i < next_of patterns range low
    first_bytes_apart l i b c = omega (arith, are.before i b c, are.after low (omega arith) l)

    -- one group more
    module _ (end : ℕ) (a : from ≤ low) (l : low < end) (u : end ≤ range.high)
        (same : (i : ℕ) → low ≤ i → i < end → next_of patterns range i ≡ next_of patterns range low)
        (other : end < range.high → next_of patterns range end ≢ next_of patterns range low) where
      abbrev byte : ℕ
      byte = next_of patterns range low

      pub bytes_more : first_bytes patterns range (byte + 1) ≡ first_bytes patterns range upto ++ byte ∷ []
      bytes_more =
          let inside : range.low ≤ low = omega (arith, on.low) in
          met_more (led_by patterns range) upto byte are.some (are.after low (omega arith) (omega arith))
          (λ b above below. none_between low upto are.before b above
          (λ i c d. omega (arith, row ready is low i inside c d)))
          (in_leads ready is low byte inside (omega arith) (next_some low a (omega arith)).0 refl)

      pub first_bytes_more : AreFirstBytes patterns range from lowest end (byte + 1)
      first_bytes_more =
          let up = are.after low (omega arith) (omega arith) in
          let size = ap length bytes_more in
          record {
            some = omega arith;
            small = omega (arith, small ready low range.depth (omega (arith, is.within)));
            before = λ i b c. elim (cases_lt i low) [
              | inl d ↦ omega (arith, are.before i b d, up)
              | inr d ↦ omega (arith, same i d c)
            ];
            after = λ i b c.
                (let s = row ready is low end (omega (arith, on.low)) (omega arith) (omega arith) in
                omega (arith, row ready is end i (omega (arith, on.low)) b c, s, other (omega arith)));
            few = omega (arith, size, length_push (first_bytes patterns range upto) byte, are.few, up);
            met = inr (elim are.met [
              | inl none ↦ record {
                rest = [];
                are = bytes_more ∙ ap (λ xs. xs ++ byte ∷ []) none.1 ∙ ap (λ b. b ∷ []) none.2;
                last = omega (arith, none.2);
                top = omega (arith, same (end - 1) (omega arith) (omega arith));
              }
              | inr met ↦ record {
                rest = met.rest ++ byte ∷ [];
                are = bytes_more ∙ ap (λ xs. xs ++ byte ∷ []) met.are;
                last = omega (arith, last_more lowest byte met.rest);
                top = omega (arith, same (end - 1) (omega arith) (omega arith));
              }
            ]);
          }

    -- at the end of the range they are all the bytes that lead on
    module _ (past : range.high ≤ low) where
      pub first_bytes_all : next_bytes (texts_of patterns) (path_of_range patterns range) ≡ first_bytes patterns range upto
      unfolding next_bytes
      first_bytes_all =
          met_none (led_by patterns range) upto 256 are.some are.small
          (λ b above below. none_between low upto are.before b above (λ i c d. absurd (omega arith)))

      pub all_met : low ≤ range.high → AreMet patterns range lowest low upto
      all_met l = grind arith

      -- so bytes are sparse where the code finds them so
      pub first_bytes_sparse : (highest count : ℕ) → low ≤ range.high → highest ≡ next_of patterns range (range.high - 1)
          → count ≡ length (first_bytes patterns range upto)
          → ltb (2 * count + 4) (highest + 1 - lowest)
          ≡ are_sparse (next_bytes (texts_of patterns) (path_of_range patterns range))
      first_bytes_sparse highest count l is_high counted =
          let met = all_met l in
          let same : low ≡ range.high = omega arith in
          let size : count ≡ length (lowest ∷ met.rest) = counted ∙ ap length met.are in
          let last : highest ≡ last_byte lowest met.rest =
          omega (arith, is_high, ap (λ n. next_of patterns range (n - 1)) same, met.top, met.last) in
          ap (λ n. ltb (2 * n + 4) (highest + 1 - lowest)) size
          ∙ ap (λ h. ltb (2 * length (lowest ∷ met.rest) + 4) (h + 1 - lowest)) last
          ∙ sym (ap are_sparse (first_bytes_all ∙ met.are))
