-- The delimiters and fields of a namespace's range, and what is wrong with them.
use Rattle.std.proofs.Common.{◌≡◌, ◌≢◌, inl, inr, ◌==◌, ℕ, ◌<◌, true, false, not, List, [], ◌∷◌, ◌++◌, length, take}
use Rattle.std.proofs.Common.{Contains, slice_get, Option, Some, nat_eq, refl, sym, ap, ◌∙◌, eq-eqb}
use Rattle.std.proofs.Common.{arith, encode_utf8, chars, IsUtf8, eqb-true, length-append, rules}
use Rattle.std.specs.Char.{IsScalar}
use Rattle.std.specs.Option.{option_eq}
use Rattle.std.proofs.Math.Seq.{take-append_seam}
use Rattle.std.proofs.lemmas.Bool.{not-true, not-false, true≢false}
use Rattle.std.proofs.lemmas.List.{nil_from_length, same_from_push}
use Rattle.std.proofs.lemmas.List.Splits.{length-slice_split}
use Rattle.std.proofs.lemmas.Str.{chars-nil, chars_past_char, IsUtf8-encode, IsUtf8-take, IsCharBoundary-at_seam}
use Rattle.virtiofs_map.specs.Alphanumeric.{is_alphanumeric}
use Rattle.virtiofs_map.specs.Numeral.{IsNumeral}
use Rattle.virtiofs_map.specs.Separator.{Lacks, split_at_each}
use Rattle.virtiofs_map.specs.NamespaceText.{SaysNamespace, HasFields, NamespaceFault, HasNamespaceFault}
use Rattle.virtiofs_map.specs.NamespaceText.{InvalidDelimiter, IncompleteMap, InvalidValue}
use Rattle.virtiofs_map.proofs.NumeralLemmas.{IsNumeral-one}
use Rattle.virtiofs_map.proofs.ZipLemmas.{AllZip-one, AllZip-length, AllZip-contains}
use Rattle.virtiofs_map.proofs.SpecificationLemmas.{chars-push}
use Rattle.virtiofs_map.proofs.SpecificationLemmas.{split_at_each-cut, split_at_each-last}

-- a text that has fields has these alone
HasFields-one : (text : List ℕ) (fields others : List (List ℕ)) → HasFields text fields → HasFields text others
    → fields ≡ others
HasFields-one text fields others one two =
    let same = same_from_push (one.delimiter ∷ one.inner) (two.delimiter ∷ two.inner) one.delimiter two.delimiter
    (sym one.whole ∙ two.whole) in
    let inner : one.inner ≡ two.inner = cc in
    one.split ∙ rw (same.1, inner) (sym two.split)

-- and is not empty
HasFields-some : (text : List ℕ) (fields : List (List ℕ)) → HasFields text fields → text ≢ []
HasFields-some text fields has empty = search rules

-- three numerals between delimiters say a range
pub SaysNamespace-parts : (text : List ℕ) (fields : List (List ℕ)) (x y z : List ℕ) (a b c : ℕ) → HasFields text fields
    → fields ≡ x ∷ y ∷ z ∷ [] → IsNumeral x a → IsNumeral y b → IsNumeral z c → SaysNamespace text a b c
SaysNamespace-parts text fields x y z a b c has three one two last =
    record { fields = fields; between = has; numbers = rw three (one, (two, (last, tt))) }

-- one of the three fields is no numeral
pub InvalidValue-parts : (text : List ℕ) (fields : List (List ℕ)) (x y z field : List ℕ) → HasFields text fields
    → fields ≡ x ∷ y ∷ z ∷ [] → Contains (x ∷ y ∷ z ∷ []) field → ((value : ℕ) → ¬ IsNumeral field value)
    → HasNamespaceFault text InvalidValue
InvalidValue-parts text fields x y z field has three here unread =
    (fields, has, ap length three, (field, rw three here, unread))

-- a text says one range at most
pub SaysNamespace-one : (text : List ℕ) (a b c x y z : ℕ) → SaysNamespace text a b c → SaysNamespace text x y z
    → (a ≡ x) × (b ≡ y) × (c ≡ z)
SaysNamespace-one text a b c x y z one two =
    let numbers : a ∷ b ∷ c ∷ [] ≡ x ∷ y ∷ z ∷ [] =
    AllZip-one IsNumeral IsNumeral-one two.fields (a ∷ b ∷ c ∷ []) (x ∷ y ∷ z ∷ [])
    (rw (HasFields-one text one.fields two.fields one.between two.between) at one.numbers) two.numbers in
    (cc, cc, cc)

-- a text that says a range has no fault
pub SaysNamespace-no_fault : (text : List ℕ) (a b c : ℕ) (e : NamespaceFault) → SaysNamespace text a b c
    → ¬ HasNamespaceFault text e
SaysNamespace-no_fault text a b c InvalidDelimiter says (some, none) = none says.fields says.between
SaysNamespace-no_fault text a b c IncompleteMap says (inl empty) = HasFields-some text says.fields says.between empty
SaysNamespace-no_fault text a b c IncompleteMap says (inr (fields, has, other)) =
    other (ap (λ (fs : List (List ℕ)). length fs) (HasFields-one text fields says.fields has says.between)
    ∙ AllZip-length IsNumeral says.fields (a ∷ b ∷ c ∷ []) says.numbers)
SaysNamespace-no_fault text a b c InvalidValue says (fields, has, three, (field, here, unread)) =
    let (value, is) = AllZip-contains IsNumeral says.fields (a ∷ b ∷ c ∷ []) field says.numbers
    (rw (HasFields-one text fields says.fields has says.between) at here) in
    unread value is

-- a text has one fault at most
delimiter_alone : (text : List ℕ) (e : NamespaceFault) → HasNamespaceFault text InvalidDelimiter
    → HasNamespaceFault text e → InvalidDelimiter ≡ e
delimiter_alone text InvalidDelimiter none other = refl
delimiter_alone text IncompleteMap (some, none) (inl empty) = absurd (some empty)
delimiter_alone text IncompleteMap (some, none) (inr (fields, has, _)) = absurd (none fields has)
delimiter_alone text InvalidValue (some, none) (fields, has, _, _) = absurd (none fields has)

count_alone : (text : List ℕ) → HasNamespaceFault text IncompleteMap → ¬ HasNamespaceFault text InvalidValue
count_alone text (inl empty) (fields, has, _, _) = HasFields-some text fields has empty
count_alone text (inr (fields, has, other)) (others, also, three, _) =
    other (ap (λ (fs : List (List ℕ)). length fs) (HasFields-one text fields others has also) ∙ three)

pub HasNamespaceFault-one : (text : List ℕ) (e f : NamespaceFault) → HasNamespaceFault text e → HasNamespaceFault text f
    → e ≡ f
HasNamespaceFault-one text InvalidDelimiter f one two = delimiter_alone text f one two
HasNamespaceFault-one text e InvalidDelimiter one two = sym (delimiter_alone text e two one)
HasNamespaceFault-one text IncompleteMap IncompleteMap one two = refl
HasNamespaceFault-one text IncompleteMap InvalidValue one two = absurd (count_alone text one two)
HasNamespaceFault-one text InvalidValue IncompleteMap one two = absurd (count_alone text two one)
HasNamespaceFault-one text InvalidValue InvalidValue one two = refl

-- a text before its last character
pub record IsBeforeLast (bs rest : List ℕ) (c : ℕ) : Type 0 where
  pub is_text : IsUtf8 rest
  pub whole : chars bs ≡ chars rest ++ c ∷ []

pub IsBeforeLast-here : (bs rest : List ℕ) (c : ℕ) → IsUtf8 bs → IsScalar c → bs ≡ rest ++ encode_utf8 c
    → IsBeforeLast bs rest c
IsBeforeLast-here bs rest c text scalar ends =
    let front : take (length rest) bs ≡ rest = rw ends (take-append_seam rest (encode_utf8 c)) in
    let is_front : IsUtf8 rest =
    search (rules, IsUtf8-take, IsCharBoundary-at_seam, encode_utf8, IsUtf8-encode) in
    record { is_text = is_front; whole = ap chars ends ∙ chars-push rest c is_front scalar }

not_empty : (bs rest : List ℕ) (c : ℕ) → IsBeforeLast bs rest c → chars bs ≢ []
not_empty bs rest c before empty =
    absurd (omega (arith, ap length (sym empty ∙ before.whole), length-append (chars rest) (c ∷ [])))

-- no byte, no character
pub chars-empty : (bs : List ℕ) → length bs ≡ 0 → chars bs ≡ []
chars-empty bs empty = rw (nil_from_length bs empty) chars-nil

-- it is no delimiter: it is alphanumeric, or the first of what stands before it is another one
pub InvalidDelimiter-letter : (bs rest : List ℕ) (c : ℕ) → IsBeforeLast bs rest c → is_alphanumeric c ≡ true
    → HasNamespaceFault (chars bs) InvalidDelimiter
InvalidDelimiter-letter bs rest c before letter = (
  not_empty bs rest c before,
  λ fields has.
      let same = same_from_push (chars rest) (has.delimiter ∷ has.inner) c has.delimiter
      (sym before.whole ∙ has.whole) in
      true≢false (sym letter ∙ ap is_alphanumeric same.1 ∙ has.delimits),
)

pub InvalidDelimiter-first : (bs rest : List ℕ) (c : ℕ) → IsBeforeLast bs rest c → slice_get (chars rest) 0 ≢ Some c
    → HasNamespaceFault (chars bs) InvalidDelimiter
InvalidDelimiter-first bs rest c before other = (
  not_empty bs rest c before,
  λ fields has.
      let same = same_from_push (chars rest) (has.delimiter ∷ has.inner) c has.delimiter
      (sym before.whole ∙ has.whole) in
      other (ap (λ (cs : List ℕ). slice_get cs 0) same.0 ∙ ap (λ (d : ℕ). Some d) (sym same.1)),
)

-- it is one, with which the text begins too
pub HasFields-here : (bs rest inner : List ℕ) (c : ℕ) → IsBeforeLast bs rest c → is_alphanumeric c ≡ false
    → rest ≡ encode_utf8 c ++ inner → HasFields (chars bs) (split_at_each c (chars inner))
HasFields-here bs rest inner c before delimits begins = search (rules, chars_past_char)

-- what `!=` answers of the character
pub same_option : (r : Option ℕ) (c : ℕ) → not (option_eq nat_eq r (Some c)) ≡ false → r ≡ Some c
same_option r c same = grind (arith, eqb-true, not-false)

pub other_option : (r : Option ℕ) (c : ℕ) → not (option_eq nat_eq r (Some c)) ≡ true → r ≢ Some c
other_option r c differs same = search (rules, true≢false, eq-eqb, not-true)

-- where the delimiter is not in the text, the text is one field
pub one_field : (d : ℕ) (inner : List ℕ) → Lacks d inner → length (split_at_each d inner) ≢ 3
one_field d inner none = rw (split_at_each-last d inner none) (omega arith)

-- where it is in it once, it is two
pub two_fields : (d : ℕ) (inner x rest : List ℕ) → inner ≡ x ++ d ∷ rest → Lacks d x → Lacks d rest
    → length (split_at_each d inner) ≢ 3
two_fields d inner x rest whole first none = search (rules, split_at_each-cut, split_at_each-last)

-- where it is in it twice, it is three
pub three_fields : (d : ℕ) (inner x rest y z : List ℕ) → inner ≡ x ++ d ∷ rest → Lacks d x → rest ≡ y ++ d ∷ z
    → Lacks d y → Lacks d z → split_at_each d inner ≡ x ∷ y ∷ z ∷ []
three_fields d inner x rest y z whole first cut second third =
    rw (
      split_at_each-cut d inner x rest whole first,
      split_at_each-cut d rest y z cut second,
      split_at_each-last d z third,
    )
    refl

-- there is always a field
length-split_at_each : (d : ℕ) (cs : List ℕ) → 0 < length (split_at_each d cs)
length-split_at_each d cs = omega (arith, length-slice_split (λ c. c == d) cs)

-- where it is in it more often, there are more
pub more_fields : (d : ℕ) (inner x rest y z front back : List ℕ) → inner ≡ x ++ d ∷ rest → Lacks d x → rest ≡ y ++ d ∷ z
    → Lacks d y → z ≡ front ++ d ∷ back → Lacks d front → length (split_at_each d inner) ≢ 3
more_fields d inner x rest y z front back whole first cut second more third =
    rw (
      split_at_each-cut d inner x rest whole first,
      split_at_each-cut d rest y z cut second,
      split_at_each-cut d z front back more third,
    )
    (omega (arith, length-split_at_each d back))

-- how many fields there are
pub ruleset fields = (three_fields, one_field, two_fields, more_fields)

-- what three fields say
pub ruleset parts = (SaysNamespace-parts, InvalidValue-parts)

-- that a text says one range, or has one fault
pub ruleset one_reading = (SaysNamespace-one, SaysNamespace-no_fault, HasNamespaceFault-one)
