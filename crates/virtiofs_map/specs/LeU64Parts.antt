-- Numbers of eight bytes, the lowest byte first. Only private functions and `NamesImage` cite these definitions.
use Rattle.std.specs.Int.{w64, from_le_bytes, to_le_bytes}
use Rattle.std.specs.Prelude.{ℕ, List, take, drop}

-- the bytes of the number
unfoldable pub le_u64_bytes : ℕ → List ℕ
le_u64_bytes n = to_le_bytes w64 n

-- the number whose bytes begin there
unfoldable pub le_u64_at : List ℕ → ℕ → ℕ
le_u64_at bytes from = from_le_bytes w64 (take 8 (drop from bytes))
