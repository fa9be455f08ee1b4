-- Numbers as programs print them.
use Rattle.std.specs.Prelude.{◌≡◌, ◌≢◌, ℕ, ◌<◌, ◌≤◌, List, length, slice_index}
use Rattle.std.specs.Str.Parse.{IsNumeral, digits_value}

-- the text is the number in decimal: one digit or more, with no sign and no needless zero before them; the number is at
-- most 4294967295
pub record IsDecimal (text : List ℕ) (number : ℕ) : Type 0 where
  pub digits : IsNumeral 10 text
  pub short : 1 < length text → slice_index text 0 ≢ 48
  pub worth : digits_value 10 text ≡ number
  pub fits : number ≤ 4294967295
