-- The words of rules are ASCII, so that a text is one of them just where its characters are.
use Rattle.std.proofs.Common.{◌≡◌, ◌≢◌, ℕ, List, [], ◌∷◌, Bool, true, false, nat_eq, length, arith, sym, ap, ◌∙◌}
use Rattle.std.proofs.lemmas.Bool.{false≢true}
use Rattle.std.proofs.lemmas.Bool.Decides.{Decides-eqb}
use Rattle.std.proofs.lemmas.Slice.Eq.{slice_eq-Decides}
use lib.Pointwise.{pointwise}
use Rattle.std.proofs.lemmas.Str.{encodes-chars, chars-nil}
use Rattle.std.specs.Str.{chars, IsUtf8, encode_utf8_all}

-- a text that is a word, in characters
pub chars_word : (s word : List ℕ) → chars word ≡ word → s ≡ word → chars s ≡ word
chars_word s word ascii e = ap chars e ∙ ascii

-- a text whose characters are a word
pub word_from_chars : (s word : List ℕ) → IsUtf8 s → encode_utf8_all word ≡ word → chars s ≡ word → s ≡ word
word_from_chars s word utf8 ascii e = sym (encodes-chars s utf8) ∙ ap encode_utf8_all e ∙ ascii

-- what `==` of a text and a word tells
pub is_word : (s word : List ℕ) (r : Bool) → r ≡ pointwise nat_eq s word → (r ≡ true → s ≡ word) × (s ≡ word → r ≡ true)
is_word s word r e = slice_eq-Decides (λ a b. Decides-eqb a b) s word r e

-- a text with a byte has a character
pub chars_nonempty : (s : List ℕ) → IsUtf8 s → (r : Bool) → r ≡ nat_eq (length s) 0 → r ≡ false → chars s ≢ []
chars_nonempty s utf8 r e is_false f =
    let nothing : s ≡ [] = sym (encodes-chars s utf8) ∙ ap encode_utf8_all f in
    false≢true (sym is_false ∙ e ∙ ap (λ xs. nat_eq (length xs) 0) nothing)

-- a text with no byte has no character
pub chars_empty : (s : List ℕ) → (r : Bool) → r ≡ nat_eq (length s) 0 → r ≡ true → chars s ≡ []
chars_empty [] r e is_true = chars-nil
chars_empty (b ∷ s) r e is_true = grind arith
