-- What a program's output shows to contracts, and what a text that is written does to it.
use Rattle.std.specs.Prelude.{ℕ, ◌<◌, Bool, IsTrue, IsFalse, List, Option, length}
use Rattle.std.specs.Io.{StartsWith}
use Rattle.std.specs.Io.KnownBytes.{Appends}

-- the bytes that the writer holds, `None` for a writer that doesn't tell them, whether a write or a flush failed, and
-- whether the writer was flushed since the last write
pub record Output : Type 0 where
  pub bytes : Option (List ℕ)
  pub failed : Bool
  pub flushed : Bool

-- the whole text was appended, and nothing failed
pub record Writes (old new : Output) (text : List ℕ) : Type 0 where
  pub whole : Appends old.bytes new.bytes text
  pub sound : IsFalse new.failed

-- a write failed, and what was appended begins the text and lacks its end
pub record WritesFrontOf (old new : Output) (text : List ℕ) : Type 0 where
  pub front : List ℕ
  pub begins : StartsWith text front
  pub lacks : length front < length text
  pub appended : Appends old.bytes new.bytes front
  pub failed : IsTrue new.failed
