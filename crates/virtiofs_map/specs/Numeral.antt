-- The texts that are a number.
use Rattle.std.specs.Prelude.{◌≡◌, ◌⊎◌, ℕ, ◌<◌, ◌≤◌, List, ◌∷◌, length, All}
use Rattle.std.specs.Char.{IsAsciiDigit}
use Rattle.std.specs.Str.Parse.{digits_value}

-- the text is an optional `+`, and then one or more decimal digits; the value of the digits is `value`, at most
-- 4294967295
pub record IsNumeral (text : List ℕ) (value : ℕ) : Type 0 where
  pub digits : List ℕ
  pub written : (text ≡ digits) ⊎ (text ≡ 43 ∷ digits)
  pub some : 0 < length digits
  pub decimal : All IsAsciiDigit digits
  pub worth : digits_value 10 digits ≡ value
  pub fits : value ≤ 4294967295
