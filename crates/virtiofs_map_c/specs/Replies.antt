-- How an answer in bytes comes to the caller's buffer.
use Rattle.std.specs.Prelude.{◌≡◌, ℕ, ◌-◌, ◌<◌, ◌≤◌, min, List, ◌++◌, length, take, drop}
use Rattle.std.specs.Prelude.{replicate}
use Rattle.std.specs.Str.Lossy.{utf8_valid_len}
use Rattle.virtiofs_map_c.specs.Faults.{ok, no_room}

-- The length is told. Where the bytes fit they are the beginning of the buffer, and the rest of it is as it was; else
-- all of it is as it was.
pub record TellsBytes (bytes : List ℕ) (done : ℕ) (old : List ℕ) (code len : ℕ) (new : List ℕ) : Type 0 where
  pub length_told : len ≡ length bytes
  pub fits : length bytes ≤ length old → (code ≡ done) × (new ≡ bytes ++ drop (length bytes) old)
  pub does_not_fit : length old < length bytes → (code ≡ no_room) × (new ≡ old)

-- the whole characters at the front, and a space for each byte behind them
abbrev pub cut_text : List ℕ → List ℕ
cut_text bytes = take (utf8_valid_len bytes) bytes ++ replicate (length bytes - utf8_valid_len bytes) 32

-- The length is told, as far as a number of 64 bits can tell it. Where the bytes fit they are the beginning of the buffer,
-- and the rest of it is as it was; else the buffer is the beginning of the bytes, with spaces in the place of a character
-- that is cut.
pub record TellsFront (bytes old : List ℕ) (code len : ℕ) (new : List ℕ) : Type 0 where
  pub length_told : len ≡ min (length bytes) 18446744073709551615
  pub fits : length bytes ≤ length old → (code ≡ ok) × (new ≡ bytes ++ drop (length bytes) old)
  pub does_not_fit : length old < length bytes → (code ≡ no_room) × (new ≡ cut_text (take (length old) bytes))

-- a code that comes with no bytes
pub record TellsCode (told : ℕ) (old : List ℕ) (code len : ℕ) (new : List ℕ) : Type 0 where
  pub code_told : code ≡ told
  pub no_length : len ≡ 0
  pub untouched : new ≡ old

-- Bytes that are quoted: where they fit they are the beginning of the buffer, and the rest of it is as it was; else all
-- of it is as it was.
pub record IsQuoted (bytes old new : List ℕ) : Type 0 where
  pub fits : length bytes ≤ length old → new ≡ bytes ++ drop (length bytes) old
  pub does_not_fit : length old < length bytes → new ≡ old

-- ---- a text that is written piece by piece, as far as there is room

-- The buffer begins with some text, as far as there is room, and the rest of it is as it was. The length of the text is
-- told, as far as a number of 64 bits can tell it.
pub record IsFront (first : List ℕ) (len : ℕ) (out : List ℕ) : Type 0 where
  pub text : List ℕ
  pub length_told : len ≡ min (length text) 18446744073709551615
  pub same : length out ≡ length first
  pub fits : length text ≤ length first → out ≡ text ++ drop (length text) first
  pub does_not_fit : length first ≤ length text → out ≡ take (length first) text

-- behind any text that the buffer begins with, more is written or nothing
abbrev pub Goes : ℕ → List ℕ → ℕ → List ℕ → Type 0
Goes len old after new = (first : List ℕ) → IsFront first len old → IsFront first after new
