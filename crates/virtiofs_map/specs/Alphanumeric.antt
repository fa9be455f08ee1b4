-- The characters that Unicode counts as letters and numbers.
use Rattle.std.specs.Prelude.{ℕ, Bool, ◌||◌, ◌==◌}
use Rattle.unicode.specs.Binary.{is_alphabetic}
use Rattle.unicode.specs.GeneralCategory.{general_category, general_category_number}

-- the crate unicode's numbers of the general categories Nd, Nl and No
abbrev pub decimal_number : ℕ
decimal_number = 8

abbrev pub letter_number : ℕ
letter_number = 9

abbrev pub other_number : ℕ
other_number = 10

-- the character has the property Alphabetic, or one of those three categories
unfoldable pub is_alphanumeric : ℕ → Bool
is_alphanumeric c =
    let category = general_category_number (general_category c) in
    is_alphabetic c || (category == decimal_number) || (category == letter_number) || (category == other_number)
