-- Numbers in the bytes of a value, the lowest byte first.
use Rattle.std.specs.Prelude.{ℕ, ◌+◌, ◌*◌, List, slice_index}

-- the number that two bytes make, from that place on
abbrev pub two_bytes : List ℕ → ℕ → ℕ
two_bytes value place = slice_index value place + 256 * slice_index value (place + 1)

-- the number that four bytes make
abbrev pub four_bytes : List ℕ → ℕ → ℕ
four_bytes value place = two_bytes value place + 65536 * two_bytes value (place + 2)
