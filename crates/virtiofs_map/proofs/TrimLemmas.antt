-- What trimming a text leaves, in characters.
use Rattle.std.proofs.Common.{◌≡◌, ℕ, zero, suc, ◌<◌, Bool, true, false, cond, ◌&&◌, List, [], ◌∷◌, ◌++◌, length}
use Rattle.std.proofs.Common.{take, drop, get_or, ◌⊎◌, inl, inr, refl, sym, ap, ◌∙◌, arith, rules}
use Rattle.std.proofs.lemmas.Bool.{false≢true, false_from_ne_true}
use Rattle.std.proofs.lemmas.Bool.Decides.{nat_tests}
use Rattle.std.proofs.lemmas.List.{take-append-drop}
use Rattle.std.proofs.lemmas.Str.{chars-encodes, scalars-chars, encodes-chars, chars-append, chars-IsAscii}
use Rattle.std.proofs.lemmas.Str.{IsUtf8-from_ascii, byte_from_char, length-le-encodes}
use Rattle.std.specs.Char.{is_whitespace, is_ascii_whitespace}
use Rattle.std.specs.List.{AllByRecursion}
use Rattle.std.specs.Str.{chars, IsUtf8, IsAscii, trim, trim_start, trim_end, all_scalars, skip_leading_whitespace}
use Rattle.std.specs.Str.{drop_trailing_whitespace, IsTrimAsciiStart, encode_utf8_all}
use lib.Utf8.{scalar}
use Rattle.virtiofs_map.specs.RuleText.{trimmed, IsBlank}
use Rattle.virtiofs_map.specs.RuleParts.{IsOpened}

-- ---- characters stay characters

and_parts : (a b : Bool) → (a && b) ≡ true → (a ≡ true) × (b ≡ true)
and_parts a b e = grind (arith, false≢true)

skip_scalars : (cs : List ℕ) → all_scalars cs ≡ true → all_scalars (skip_leading_whitespace cs) ≡ true
skip_scalars [] e = refl
skip_scalars (c ∷ cs) e = grind (arith, skip_scalars cs (and_parts (scalar c) (all_scalars cs) e).1)

drop_scalars : (cs : List ℕ) → all_scalars cs ≡ true → all_scalars (drop_trailing_whitespace cs) ≡ true
drop_scalars [] e = refl
drop_scalars (c ∷ cs) e = grind (arith, drop_scalars cs)

-- what `trim` gives, in characters
pub chars-trim : (s : List ℕ) → IsUtf8 s → chars (trim s) ≡ trimmed (chars s)
unfolding trim_start trim_end
chars-trim s utf8 = search (rules, skip_scalars, scalars-chars, chars-encodes, drop_scalars)

-- ---- a trimmed text begins with no blank

blank_is_white : (c : ℕ) → is_ascii_whitespace c ≡ true → is_whitespace c ≡ true
blank_is_white c e = grind (arith, nat_tests)

blank_is_ascii : (c : ℕ) → is_ascii_whitespace c ≡ true → c < 128
blank_is_ascii c e = grind (arith, nat_tests)

skip_head_by : (b : Bool) (x : ℕ) (xs zs ds : List ℕ) (c : ℕ) → is_whitespace x ≡ b
    → (zs ≡ c ∷ ds → is_whitespace c ≡ false) → cond b zs (x ∷ xs) ≡ c ∷ ds → is_whitespace c ≡ false
skip_head_by b x xs zs ds c is_b later e = grind arith

skip_head : (cs ds : List ℕ) (c : ℕ) → skip_leading_whitespace cs ≡ c ∷ ds → is_whitespace c ≡ false
skip_head [] ds c e = absurd (cc)
skip_head (x ∷ xs) ds c e = search (rules, skip_head xs ds c, skip_head_by)

drop_head_by : (b : Bool) (x : ℕ) (xs zs ds : List ℕ) (c : ℕ) → cond b [] (x ∷ zs) ≡ c ∷ ds
    → (es : List ℕ) × (x ∷ xs ≡ c ∷ es)
drop_head_by true x xs zs ds c e = absurd (cc)
drop_head_by false x xs zs ds c e = let same : x ≡ c = (cc) in (xs, ap (λ y. y ∷ xs) same)

drop_head : (cs ds : List ℕ) (c : ℕ) → drop_trailing_whitespace cs ≡ c ∷ ds → (es : List ℕ) × (cs ≡ c ∷ es)
drop_head [] ds c e = absurd (cc)
drop_head (x ∷ xs) ds c e = drop_head_by _ x xs (drop_trailing_whitespace xs) ds c e

pub opened_or_empty : (cs : List ℕ) → ((c : ℕ) (ds : List ℕ) → cs ≡ c ∷ ds → is_ascii_whitespace c ≡ true → ⊥)
    → (cs ≡ []) ⊎ IsOpened cs
opened_or_empty [] h = inl refl
opened_or_empty (c ∷ ds) h = inr (c, ds, (refl, false_from_ne_true _ (h c ds refl)))

pub trimmed_opened : (text : List ℕ) → (trimmed text ≡ []) ⊎ IsOpened (trimmed text)
trimmed_opened text = opened_or_empty (trimmed text) (λ c ds e blank.
    let (es, f) = drop_head (skip_leading_whitespace text) ds c e in
    false≢true (sym (skip_head text es c f) ∙ blank_is_white c blank))

-- ---- a trimmed text ends with no blank

drop_again : (cs : List ℕ) → drop_trailing_whitespace (drop_trailing_whitespace cs) ≡ drop_trailing_whitespace cs
drop_again [] = refl
drop_again (c ∷ cs) = grind (arith, drop_again cs)

solid_tail : (c : ℕ) (cs : List ℕ) → drop_trailing_whitespace (c ∷ cs) ≡ c ∷ cs → drop_trailing_whitespace cs ≡ cs
solid_tail c cs e = grind arith

pub solid_back : (xs ys : List ℕ) → drop_trailing_whitespace (xs ++ ys) ≡ xs ++ ys → drop_trailing_whitespace ys ≡ ys
solid_back [] ys e = e
solid_back (x ∷ xs) ys e = grind (arith, solid_back xs ys (solid_tail x (xs ++ ys) e))

pub trimmed_solid : (text : List ℕ) → drop_trailing_whitespace (trimmed text) ≡ trimmed text
trimmed_solid text = drop_again (skip_leading_whitespace text)

blanks_drop : (bs : List ℕ) → AllByRecursion IsBlank bs → drop_trailing_whitespace bs ≡ []
blanks_drop [] h = refl
blanks_drop (b ∷ bs) h = rw (blank_is_white b h.0, blanks_drop bs h.1) refl

pub solid_blanks : (bs : List ℕ) → AllByRecursion IsBlank bs → drop_trailing_whitespace bs ≡ bs → bs ≡ []
solid_blanks bs blank e = sym e ∙ blanks_drop bs blank

-- ---- skipping blanks

blank_front : (s : List ℕ) (n : ℕ) → ((i : ℕ) → i < n → is_ascii_whitespace (get_or s i 0) ≡ true)
    → AllByRecursion IsBlank (take n s)
blank_front [] zero h = tt
blank_front [] (suc n) h = tt
blank_front (x ∷ s) zero h = tt
blank_front (x ∷ s) (suc n) h = (h 0 (omega arith), blank_front s n (λ i l. h (suc i) (omega arith)))

blanks_ascii : (s : List ℕ) → AllByRecursion IsBlank s → IsAscii s
blanks_ascii [] h i = omega arith
blanks_ascii (x ∷ s) h zero = blank_is_ascii x h.0
blanks_ascii (x ∷ s) h (suc i) = blanks_ascii s h.1 i

get_or_drop_first : (s : List ℕ) (n : ℕ) → get_or (drop n s) 0 0 ≡ get_or s n 0
get_or_drop_first s zero = refl
get_or_drop_first [] (suc n) = refl
get_or_drop_first (x ∷ s) (suc n) = get_or_drop_first s n

-- what `trim_ascii_start` skips, in characters
pub record Skips (before after : List ℕ) : Type 0 where
  pub blanks : List ℕ
  pub spells : before ≡ blanks ++ after
  pub are_blank : AllByRecursion IsBlank blanks
  pub opened : (after ≡ []) ⊎ IsOpened after

pub skips : (s r : List ℕ) → IsUtf8 r → IsTrimAsciiStart s r → Skips (chars s) (chars r)
skips s r utf8 (n, is_rest, lengths, below, stops) =
    let blank = blank_front s n below in
    let ascii = blanks_ascii (take n s) blank in
    let parts : take n s ++ r ≡ s = rw is_rest (take-append-drop n s) in
    record {
      blanks = take n s;
      spells = grind (arith, chars-append, IsUtf8-from_ascii, chars-IsAscii);
      are_blank = blank;
      opened = opened_or_empty (chars r) (λ c ds e is_blank.
          let spelled : r ≡ encode_utf8_all (c ∷ ds) = sym (encodes-chars r utf8) ∙ ap encode_utf8_all e in
          let first : get_or r 0 0 ≡ c = grind (arith, byte_from_char, blank_is_ascii) in
          let long : n < length s = omega (arith, ap length spelled, length-le-encodes (c ∷ ds)) in
          let here : get_or r 0 0 ≡ get_or s n 0 = ap (λ x. get_or x 0 0) is_rest ∙ get_or_drop_first s n in
          false≢true (sym (stops long) ∙ ap is_ascii_whitespace (sym here ∙ first) ∙ is_blank));
    }
