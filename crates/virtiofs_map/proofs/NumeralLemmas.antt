-- What `parse` reads as a number is a numeral, over characters, and nothing else is.
use Rattle.std.proofs.Common.{◌≡◌, ℕ, ◌^◌, ◌<◌, List, [], ◌∷◌, length, get_or, All, Result, Ok, Err, MatchResult}
use Rattle.std.proofs.Common.{IfErr, IsOkAnd, refl, sym, ◌∙◌, subst, inl, arith, decimal, chars, IsUtf8}
use Rattle.std.proofs.Common.{IsAscii, rules}
use Rattle.std.specs.Char.{IsAsciiDigit}
use Rattle.std.specs.Int.{IsInRange}
use Rattle.std.specs.Str.Parse.{AllDigits, digits_value, without_leading_plus, IsNumeral as IsDigits, ParsesUnsigned}
use Rattle.std.proofs.lemmas.Str.{chars-IsAscii, encodes-chars, encodes-IsAscii}
use Rattle.std.proofs.lemmas.Str.Parse.{IsNumeralModel, numerals_by_value, tells_by_index, without_leading_plus_none}
use Rattle.std.proofs.lemmas.Str.Parse.{without_leading_plus_plus}
use Rattle.std.proofs.lemmas.Bool.Decides.{eqb_tells}
use Rattle.std.proofs.lemmas.Fmt.{decimal_is_IsNumeral}
use Rattle.std.proofs.lemmas.List.Elements.{All-get_or, All-from_get_or, All-tail, All-weaker}
use Rattle.std.proofs.lemmas.List.Elements.{recursion_from_All}
use Rattle.virtiofs_map.specs.Numeral.{IsNumeral}
use Rattle.virtiofs_map.specs.Separator.{Lacks}

-- std's digits, by index
by_index : IsNumeralModel (λ ds. (i : ℕ) → i < length ds → IsInRange 48 57 (get_or ds i 0)) (digits_value 10)
by_index = numerals_by_value (λ ds. (i : ℕ) → i < length ds → IsInRange 48 57 (get_or ds i 0)) tells_by_index

AllDigits-All : (ds : List ℕ) → All IsAsciiDigit ds → AllDigits 10 ds
AllDigits-All ds decimal = by_index.to ds (λ i below. All-get_or IsAsciiDigit ds i 0 below decimal)

All-AllDigits : (ds : List ℕ) → AllDigits 10 ds → All IsAsciiDigit ds
All-AllDigits ds digits = All-from_get_or IsAsciiDigit ds 0 (by_index.from ds digits)

IsAscii-cons : (c : ℕ) (cs : List ℕ) → c < 128 → IsAscii cs → IsAscii (c ∷ cs)
IsAscii-cons c cs small ascii e = grind arith

IsAscii-digits : (ds : List ℕ) → All IsAsciiDigit ds → IsAscii ds
IsAscii-digits [] decimal = λ i. omega arith
IsAscii-digits (d ∷ ds) decimal = grind (arith, IsAscii-digits ds (All-tail IsAsciiDigit d ds decimal))

-- the characters of a numeral are ASCII
IsAscii-numeral : (text : List ℕ) (value : ℕ) → IsNumeral text value → IsAscii text
IsAscii-numeral text value numeral = search (rules, IsAscii-digits, IsAscii-cons)

-- so they are its bytes
bytes-numeral : (bs : List ℕ) (value : ℕ) → IsUtf8 bs → IsNumeral (chars bs) value → chars bs ≡ bs
bytes-numeral bs value text numeral =
    sym (encodes-IsAscii (chars bs) (IsAscii-numeral (chars bs) value numeral)) ∙ encodes-chars bs text

-- a text that `parse` reads is a numeral
numeral_from_digits : (bs : List ℕ) → IsDigits 10 (without_leading_plus bs)
    → digits_value 10 (without_leading_plus bs) < 2 ^ 32 → IsNumeral bs (digits_value 10 (without_leading_plus bs))
numeral_from_digits bs digits small =
    grind (arith, eqb_tells, without_leading_plus_plus, without_leading_plus_none, All-AllDigits)

-- the digits of a numeral are what follows its plus
digits_of_numeral : (bs : List ℕ) (value : ℕ) (n : IsNumeral bs value) → without_leading_plus bs ≡ n.digits
digits_of_numeral bs value n = search (rules, All-get_or, without_leading_plus_none, without_leading_plus_plus)

-- a text has one value
pub IsNumeral-one : (text : List ℕ) (v w : ℕ) → IsNumeral text v → IsNumeral text w → v ≡ w
IsNumeral-one text v w a b = search (rules, digits_of_numeral)

pub numeral_from_parse : {E : Type 0} (bs : List ℕ) (r : Result ℕ E) → IsUtf8 bs → ParsesUnsigned 32 10 bs r
    → MatchResult r (λ value. IsNumeral (chars bs) value) (λ _. (value : ℕ) → IsNumeral (chars bs) value → ⊥)
numeral_from_parse bs (Ok value) text (parsed, is) =
    let numeral : IsNumeral bs value =
    grind (arith, numeral_from_digits) in
    subst (λ (xs : List ℕ). IsNumeral xs value) (sym (chars-IsAscii bs (IsAscii-numeral bs value numeral))) numeral
numeral_from_parse bs (Err e) text refused =
    λ value numeral.
    let numeral : IsNumeral bs value =
    grind (arith, bytes-numeral) in
    let same : without_leading_plus bs ≡ numeral.digits = digits_of_numeral bs value numeral in
    refused (rw same
    (search (rules, AllDigits-All)))

-- so what `parse` answers is told both ways
pub numeral_complete : {E : Type 0} (bs : List ℕ) (r : Result ℕ E) → IsUtf8 bs → ParsesUnsigned 32 10 bs r → (value : ℕ)
    → IsNumeral (chars bs) value → IsOkAnd r (λ read. read ≡ value)
numeral_complete {E} bs (Ok read) text parsed value numeral =
    IsNumeral-one (chars bs) read value (numeral_from_parse {E = E} bs (Ok read) text parsed) numeral
numeral_complete {E} bs (Err e) text parsed value numeral =
    numeral_from_parse {E = E} bs (Err e) text parsed value numeral

pub numeral_refused : {E : Type 0} (bs : List ℕ) (r : Result ℕ E) → IsUtf8 bs → ParsesUnsigned 32 10 bs r
    → IfErr r (λ _. (value : ℕ) → ¬ IsNumeral (chars bs) value)
numeral_refused {E} bs (Ok value) text parsed = tt
numeral_refused {E} bs (Err e) text parsed = numeral_from_parse {E = E} bs (Err e) text parsed

-- a number in decimal is nothing but digits
pub All-decimal : (n : ℕ) → n < 2 ^ 32 → All IsAsciiDigit (decimal n)
All-decimal n small = All-AllDigits (decimal n) (decimal_is_IsNumeral n (omega arith)).0.1

-- so it holds no colon
pub decimal_lacks_colon : (n : ℕ) → n < 2 ^ 32 → Lacks 58 (decimal n)
decimal_lacks_colon n small = search (rules, recursion_from_All, decimal, All-weaker, All-decimal)

-- and is a numeral of the number
pub IsNumeral-decimal : (n : ℕ) → n < 2 ^ 32 → IsNumeral (decimal n) n
IsNumeral-decimal n small =
    let (digits, worth) = decimal_is_IsNumeral n (omega arith) in
    record {
      digits = decimal n;
      written = inl refl;
      some = digits.0;
      decimal = All-decimal n small;
      worth = worth;
      fits = omega arith;
    }
