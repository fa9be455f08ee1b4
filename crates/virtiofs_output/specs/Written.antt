-- How the programs write bytes and lines.
use Rattle.std.specs.Prelude.{ℕ, ◌/◌, ◌%◌, List, [], ◌∷◌, ◌++◌, codes, flat_map, if◌then◌else◌, ◌==◌, nat_le, ◌&&◌}
use Rattle.std.specs.Char.{digit_char}

-- a backslash twice, any other printing byte of ASCII as itself, and the rest as `\x` and two hexadecimal digits
abbrev pub written_byte : ℕ → List ℕ
written_byte byte =
    if byte == 92 then codes "\\\\"
    else (if nat_le 32 byte && nat_le byte 126 then byte ∷ []
    else codes "\\x" ++ digit_char (byte / 16) ∷ digit_char (byte % 16) ∷ [])

abbrev pub written : List ℕ → List ℕ
written bytes = flat_map written_byte bytes

-- bytes between quotes
abbrev pub quoted : List ℕ → List ℕ
quoted bytes = codes "'" ++ written bytes ++ codes "'"

-- a text and its line feed
abbrev pub line : List ℕ → List ℕ
line text = text ++ 10 ∷ []
