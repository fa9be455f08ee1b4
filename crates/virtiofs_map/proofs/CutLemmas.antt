-- Where a text is cut at a character, in characters.
use Rattle.std.proofs.Common.{◌≡◌, ℕ, ◌≤◌, eqb, List, [], ◌∷◌, ◌++◌, length, take, drop, Option, Some, None}
use Rattle.std.proofs.Common.{MatchOption, Contains, IfSome, IfNone, refl, sym, ap, ◌∙◌, arith, length-append}
use Rattle.std.proofs.Common.{length-take, Bor, take-append-drop, chars, IsUtf8, rules}
use Rattle.std.proofs.Math.Seq.{get_or-append_seam}
use Rattle.std.proofs.lemmas.Bool.Decides.{nat_tests}
use Rattle.std.proofs.lemmas.Str.{IsUtf8-append, IsUtf8-encode, IsUtf8-take, IsUtf8-drop, IsCharBoundary-from_drop}
use Rattle.std.proofs.lemmas.Str.{chars-append, chars_past_char, chars_from_encodes}
use Rattle.std.specs.Char.{IsScalar}
use Rattle.std.specs.Str.{NonePass, NoCharPasses}
use Rattle.std.specs.Str.Pattern.{FindsChar, HasCharAt, HasMatch, SplitsAroundMatch}
use Rattle.virtiofs_map.specs.RuleText.{Fields}
use Rattle.virtiofs_map.specs.Separator.{Lacks}

-- no character is d, as a test and as a fact
lacks_from_none : (d : ℕ) (cs : List ℕ) → NonePass (λ c. eqb c d) cs → Lacks d cs
lacks_from_none d [] none = tt
lacks_from_none d (c ∷ cs) none = (grind (arith, nat_tests, none.0), lacks_from_none d cs none.1)

pub lacks_text : (d : ℕ) (s : List ℕ) → IsUtf8 s → NoCharPasses (λ c. eqb c d) s → Lacks d (chars s)
lacks_text d s utf8 (cs, spells, none) = search (rules, chars_from_encodes, lacks_from_none)

-- a text at a place where d stands
pub record CutAt (d : ℕ) (s before after : List ℕ) : Type 0 where
  pub spells : chars s ≡ chars before ++ d ∷ chars after
  pub before_is : IsUtf8 before
  pub after_is : IsUtf8 after

cut_at : (d : ℕ) (s : List ℕ) (i j : ℕ) → IsScalar d → IsUtf8 s → HasCharAt d s i j → i ≤ length s
    → CutAt d s (take i s) (drop j s)
cut_at d s i j scalar utf8 at fits =
    let after : IsUtf8 (drop j s) = rw (at.ends) (IsUtf8-drop s _ utf8 at.after) in
    let from : IsUtf8 (drop i s) = rw (at.split) (IsUtf8-append _ _ (IsUtf8-encode d scalar) after) in
    let before : IsUtf8 (take i s) = IsUtf8-take s i utf8 (IsCharBoundary-from_drop s i fits from) in
    record {
      spells = sym (ap chars (take-append-drop i s)) ∙ chars-append (take i s) (drop i s) before
          ∙ ap (λ x. chars (take i s) ++ x) (chars_past_char (drop i s) (drop j s) d from at.split);
      before_is = before;
      after_is = after;
    }

-- a text that is cut at the first d
pub record FirstCut (d : ℕ) (s before after : List ℕ) : Type 0 where
  pub here : CutAt d s before after
  pub first : Lacks d (chars before)

pub first_cut : (d : ℕ) (s before after : List ℕ) → IsScalar d → IsUtf8 s → SplitsAroundMatch (FindsChar d) s before after
    → FirstCut d s before after
first_cut d s before after scalar utf8 (i, j, (none, at), front, back, order, front_len, back_len) =
    let here = cut_at d s i j scalar utf8 at (omega (arith, ap length front, length-take i s)) in
    record { here = rw (front, back) here; first = rw front (lacks_text d (take i s) here.before_is none) }

-- what `split_once` ensures at the character d
abbrev pub SplitsOnce : ℕ → List ℕ → Option (Bor (List ℕ) × Bor (List ℕ)) → Type 0
SplitsOnce d s r = MatchOption r (FindsChar d s None) (λ p. SplitsAroundMatch (FindsChar d) s p.0.now p.1.now)

pub split_nowhere : (d : ℕ) (s : List ℕ) (r : Option (Bor (List ℕ) × Bor (List ℕ))) → IsUtf8 s → SplitsOnce d s r
    → IfNone r (Lacks d (chars s))
split_nowhere d s None utf8 none = lacks_text d s utf8 none
split_nowhere d s (Some p) utf8 splits = tt

pub split_first : (d : ℕ) (s : List ℕ) (r : Option (Bor (List ℕ) × Bor (List ℕ))) → IsScalar d → IsUtf8 s
    → SplitsOnce d s r → IfSome r (λ p. Lacks d (chars p.0.now))
split_first d s None scalar utf8 none = tt
split_first d s (Some p) scalar utf8 splits = (first_cut d s p.0.now p.1.now scalar utf8 splits).first

-- what stands before the first d is a field
pub field_here : (d : ℕ) (text field rest : List ℕ) → text ≡ field ++ d ∷ rest → Lacks d field
    → Fields d text (field ∷ []) rest
field_here d text field rest whole lacks = (rest, whole, lacks, refl)

-- a text with a match of d holds d
pub contains_match : (d : ℕ) (s : List ℕ) → IsScalar d → IsUtf8 s → HasMatch (FindsChar d) s → Contains (chars s) d
contains_match d s scalar utf8 (i, j, (none, at), order, fits) =
    let e = (cut_at d s i j scalar utf8 at (omega arith)).spells in (
      length (chars (take i s)),
      omega (arith, ap length e, length-append (chars (take i s)) (d ∷ chars (drop j s))),
      rw e (get_or-append_seam (chars (take i s)) d (chars (drop j s)) d),
    )
