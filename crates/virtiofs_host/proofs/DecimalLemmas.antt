-- What `parse` reads of a text without a sign.
use Rattle.std.proofs.Common.{ℕ, List, [], ◌∷◌, arith}
use Rattle.std.specs.Str.{IsAscii}
use Rattle.std.specs.Str.Parse.{AllDigits}
use Rattle.std.proofs.lemmas.Str.{IsUtf8-from_ascii}
use Rattle.std.proofs.lemmas.Str.Parse.{digit_from_value}

-- digits are ASCII
pub IsAscii-digits : (ds : List ℕ) → AllDigits 10 ds → IsAscii ds
IsAscii-digits [] digits = λ i. omega arith
IsAscii-digits (d ∷ ds) digits = grind (arith, IsAscii-digits ds digits.1, digit_from_value)

-- so they are a text
pub ruleset digits = (IsUtf8-from_ascii, IsAscii-digits)
