-- The prefix and the fields of a specification's text, and what is wrong with them.
use Rattle.std.proofs.Common.{◌≡◌, ◌≢◌, refl, ℕ, true, false, nat_lt, List, [], ◌∷◌, ◌++◌, length, sym, ap, ◌∙◌, append_assoc}
use Rattle.std.proofs.Common.{arith, encode_utf8, chars, IsUtf8, append-nil, ltb-true, ltb-false, rules, inl, ◌==◌}
use Rattle.std.proofs.Common.{All, Option, Result, Ok, Err, IfOk, IfErr, eq-eqb, encode_utf8_all, IsAscii}
use Rattle.std.specs.Char.{IsScalar, to_ascii_lowercase}
use Rattle.std.specs.List.{AllPass, AllZip}
use Rattle.std.proofs.lemmas.Str.{chars-append, chars-nil, chars_past_char, scalars-chars, IsUtf8-encode}
use Rattle.std.proofs.lemmas.Str.{IsUtf8-past_char, chars-IsAscii, encodes-IsAscii, encodes-chars}
use Rattle.std.proofs.lemmas.List.{map-append}
use Rattle.std.proofs.lemmas.Bool.{and_parts, cases_Bool}
use Rattle.std.proofs.Math.Utf8.{scalar, scalars}
use Rattle.std.proofs.lemmas.List.Elements.{All-push, All-nil, All-weaker}
use Rattle.virtiofs_map.specs.SpecificationText.{is_word_character, lowered, word_of, numbers_of, HasParts, Says}
use Rattle.virtiofs_map.specs.SpecificationText.{SpecificationFault, InvalidValue, HasSpecificationFault}
use Rattle.virtiofs_map.specs.SpecificationText.{specification_fault_of, IsFieldsFault, IsCountFault, IsWordFault}
use Rattle.virtiofs_map.specs.SpecificationText.{InvalidPrefix, InvalidLength, HasNoSeparator}
use Rattle.std.proofs.lemmas.Str.Ascii.{IsAscii-from_all}
use Rattle.std.proofs.lemmas.List.Sums.{AllPass-from_list_all}
use Rattle.std.proofs.lemmas.List.Splits.{slice_split_at, slice_split_none}
use Rattle.virtiofs_map.proofs.ZipLemmas.{AllZip-push}
use Rattle.virtiofs_map.specs.Numeral.{IsNumeral}
use Rattle.virtiofs_map.specs.Refusal.{OutOfMemoryOr}
use Rattle.virtiofs_map.specs.Separator.{Lacks, split_at_each}
use Rattle.virtiofs_map.specs.declared.cmdline.IdMap.{IdMap}
use Rattle.virtiofs_map.specs.declared.cmdline.IdMapError.{IdMapError}

-- word characters, and then the rest of the text; the word is the former with ASCII letters lowered
pub record IsPrefixSoFar (text rest word : List ℕ) : Type 0 where
  pub is_text : IsUtf8 rest
  pub done : List ℕ
  pub whole : chars text ≡ done ++ chars rest
  pub passed : AllPass is_word_character done
  pub lower : chars word ≡ lowered done

pub IsPrefixSoFar-start : (text rest word : List ℕ) → IsUtf8 text → rest ≡ text → word ≡ []
    → IsPrefixSoFar text rest word
IsPrefixSoFar-start text rest word is_text same empty = search (rules, All-nil, chars-nil)

-- the first of several characters is one
IsScalar-first : (c : ℕ) (cs : List ℕ) → scalars (c ∷ cs) ≡ true → IsScalar c
IsScalar-first c cs all = (and_parts (scalar c) (scalars cs) all).0

-- a character in lower case is one
IsScalar-lower : (c : ℕ) → IsScalar c → IsScalar (to_ascii_lowercase c)
IsScalar-lower c scalar = grind (arith, cases_Bool, nat_lt, ltb-true, ltb-false)

-- one character as a text
chars-encode : (c : ℕ) → IsScalar c → chars (encode_utf8 c) ≡ c ∷ []
chars-encode c scalar =
    chars_past_char (encode_utf8 c) [] c (IsUtf8-encode c scalar) (sym (append-nil (encode_utf8 c)))
    ∙ ap (λ (cs : List ℕ). c ∷ cs) chars-nil

-- a text with one more character at its end
pub chars-push : (bs : List ℕ) (c : ℕ) → IsUtf8 bs → IsScalar c → chars (bs ++ encode_utf8 c) ≡ chars bs ++ c ∷ []
chars-push bs c text scalar = search (rules, chars-append, chars-encode)

pub IsPrefixSoFar-more : (text rest back word : List ℕ) (c d : ℕ) → IsUtf8 word → d ≡ to_ascii_lowercase c
    → rest ≡ encode_utf8 c ++ back → is_word_character c ≡ true → IsPrefixSoFar text rest word
    → IsPrefixSoFar text back (word ++ encode_utf8 d)
IsPrefixSoFar-more text rest back word c d is_word lower next passes so_far =
    let next_chars : chars rest ≡ c ∷ chars back = chars_past_char rest back c so_far.is_text next in
    let scalar : IsScalar d =
    rw lower
    (IsScalar-lower c
    (IsScalar-first c (chars back) (ap scalars (sym next_chars) ∙ scalars-chars rest so_far.is_text))) in
    let pushed : chars (word ++ encode_utf8 d) ≡ chars word ++ d ∷ [] = chars-push word d is_word scalar in
    record {
      is_text = IsUtf8-past_char rest back c so_far.is_text next;
      done = so_far.done ++ c ∷ [];
      whole = grind (arith, append_assoc);
      passed = search (rules, All-push);
      lower = grind (arith, map-append);
    }

-- the prefix ends at a character that is no word character
pub HasParts-here : (text rest back word : List ℕ) (c : ℕ) → rest ≡ encode_utf8 c ++ back
    → is_word_character c ≡ false → IsPrefixSoFar text rest word
    → HasParts (chars text) (chars word) (split_at_each c (chars back))
HasParts-here text rest back word c next ends so_far = search (rules, chars_past_char)

-- where nothing is left, the text is nothing but word characters
pub AllPass-prefix : (text rest word : List ℕ) → length rest ≡ 0 → IsPrefixSoFar text rest word
    → AllPass is_word_character (chars text)
AllPass-prefix text [] word empty so_far = grind (arith, chars-nil, append-nil)
AllPass-prefix text (b ∷ rest) word empty so_far = absurd (omega arith)

-- no character is the separator, as a test
fails_from_lacks : (separator : ℕ) (text : List ℕ) → Lacks separator text → All (λ c. (c == separator) ≡ false) text
fails_from_lacks separator [] lacks = All-nil _
fails_from_lacks separator (c ∷ cs) (other, lacks) = grind (arith, fails_from_lacks separator cs lacks)

-- the field before the first separator, and those after it
pub split_at_each-cut : (separator : ℕ) (rest front back : List ℕ) → rest ≡ front ++ separator ∷ back
    → Lacks separator front → split_at_each separator rest ≡ front ∷ split_at_each separator back
split_at_each-cut separator rest front back whole first = search (rules, slice_split_at, fails_from_lacks, eq-eqb)

-- where no separator is left, the rest is one field
pub split_at_each-last : (separator : ℕ) (rest : List ℕ) → Lacks separator rest
    → split_at_each separator rest ≡ rest ∷ []
split_at_each-last separator rest none = search (rules, slice_split_none, fails_from_lacks)

-- the fault of a field is that of the fields, where those before it are numerals
pub IsFieldsFault-here : (fields done after : List (List ℕ)) (numbers field : List ℕ) (told : Option SpecificationFault)
    → fields ≡ done ++ field ∷ after → AllZip IsNumeral done numbers
    → OutOfMemoryOr told (λ fault. (fault ≡ InvalidValue field) × ((value : ℕ) → ¬ IsNumeral field value))
    → OutOfMemoryOr told (IsFieldsFault fields)
IsFieldsFault-here fields done after numbers field told here read refused = grind arith

pub IsAscii-word_of : (spec : IdMap) → IsAscii (word_of spec)
IsAscii-word_of spec = grind (arith, IsAscii-from_all, All-weaker, AllPass-from_list_all)

-- the bytes of a text are the word of a specification just where its characters are
chars-word_of : (spec : IdMap) (bs : List ℕ) → bs ≡ word_of spec → chars bs ≡ word_of spec
chars-word_of spec bs same = rw same (chars-IsAscii (word_of spec) (IsAscii-word_of spec))

bytes-word_of : (spec : IdMap) (bs : List ℕ) → IsUtf8 bs → chars bs ≡ word_of spec → bs ≡ word_of spec
bytes-word_of spec bs text same = sym (encodes-chars bs text) ∙ ap encode_utf8_all same
    ∙ encodes-IsAscii (word_of spec) (IsAscii-word_of spec)

-- the word of a specification that takes another count, and of none
pub IsWordFault-count : (spec : IdMap) (word numbers : List ℕ) (told : Option SpecificationFault) → word ≡ word_of spec
    → OutOfMemoryOr told (IsCountFault (length (numbers_of spec)) numbers)
    → OutOfMemoryOr told (IsWordFault (chars word) numbers)
IsWordFault-count spec word numbers told is refused = grind (arith, chars-word_of)

pub IsWordFault-unknown : (word numbers : List ℕ) → IsUtf8 word → ((spec : IdMap) → word ≢ word_of spec)
    → IsWordFault (chars word) numbers (InvalidPrefix (chars word))
IsWordFault-unknown word numbers text unknown = inl (refl, λ spec is. unknown spec (bytes-word_of spec word text is))

-- what the reader answers, from what it found of the word, the fields and the numbers
pub refused-uncut : (text : List ℕ) → HasNoSeparator text → HasSpecificationFault text (InvalidLength 1 0)
unfolding HasSpecificationFault
refused-uncut text none = inl (none, refl)

pub refused-fields : (text word : List ℕ) (fields : List (List ℕ)) (told : Option SpecificationFault)
    → HasParts text word fields → OutOfMemoryOr told (IsFieldsFault fields)
    → OutOfMemoryOr told (HasSpecificationFault text)
unfolding HasSpecificationFault
refused-fields text word fields told parts refused = grind arith

pub read-word : {A : Type 0} (text word : List ℕ) (fields : List (List ℕ)) (values : List ℕ)
    (r : Result IdMap (IdMapError A)) → HasParts text (chars word) fields → AllZip IsNumeral fields values
    → IfOk r (λ spec. word ≡ word_of spec) → IfOk r (λ spec. values ≡ numbers_of spec) → IfOk r (Says text)
read-word text word fields values (Ok spec) parts read is same = record {
  fields = fields;
  parts = rw (chars-word_of spec word is) at parts;
  numbers = rw same at read;
}
read-word text word fields values (Err e) parts read is same = tt

pub refused-word : {A : Type 0} (text word : List ℕ) (fields : List (List ℕ)) (values : List ℕ)
    (r : Result IdMap (IdMapError A)) → HasParts text (chars word) fields → AllZip IsNumeral fields values
    → IfErr r (λ e. OutOfMemoryOr (specification_fault_of e) (IsWordFault (chars word) values))
    → IfErr r (λ e. OutOfMemoryOr (specification_fault_of e) (HasSpecificationFault text))
unfolding HasSpecificationFault
refused-word text word fields values r parts read refused = grind arith

-- what the reader answers
pub ruleset read_words = (read-word, refused-word, refused-fields, refused-uncut)

-- how a prefix is read
pub ruleset read_prefix = (IsPrefixSoFar-start, IsPrefixSoFar-more, HasParts-here, AllPass-prefix)

-- how fields are read
pub ruleset fields = (split_at_each-cut, split_at_each-last, IsFieldsFault-here, AllZip-push)
