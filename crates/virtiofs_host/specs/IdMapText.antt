-- The texts of /proc/PID/uid_map and /proc/PID/gid_map.
use Rattle.std.specs.Prelude.{◌≡◌, ℕ, List, [], ◌∷◌, ◌++◌, length, filter, nat_lt}
use Rattle.virtiofs_map.specs.Separator.{Lacks, split_at_each}
use Rattle.virtiofs_map.specs.declared.idmap.UidMap.{UidMap}
use Rattle.virtiofs_host.specs.Decimal.{IsDecimal}
use Rattle.virtiofs_host.specs.Sequence.{AreAll, StopsAfter}

-- what stands before, between and after the spaces of a line, less what is empty
abbrev pub spaced_words : List ℕ → List (List ℕ)
spaced_words line = filter (λ word. nat_lt 0 (length word)) (split_at_each 32 line)

-- the line is three numbers with spaces between: the first id inside, the first one outside, and how many there are
pub record SaysRange (line : List ℕ) (range : UidMap) : Type 0 where
  pub first : List ℕ
  pub second : List ℕ
  pub third : List ℕ
  pub words : spaced_words line ≡ first ∷ second ∷ third ∷ []
  pub inside : IsDecimal first range.inside_uid
  pub outside : IsDecimal second range.outside_uid
  pub count : IsDecimal third range.count

-- the text begins with a line that says the range, and with a line feed after it
pub record BeginsRange (text : List ℕ) (range : UidMap) (rest : List ℕ) : Type 0 where
  pub line : List ℕ
  pub whole : text ≡ line ++ 10 ∷ rest
  pub one_line : Lacks 10 line
  pub says : SaysRange line range

-- the lines of the text say these ranges
abbrev pub SaysRanges : List ℕ → List UidMap → Type 0
SaysRanges text ranges = AreAll BeginsRange text ranges

-- the place, counted from 0, of the first line that says no range, or that no line feed ends
abbrev pub HasWrongLine : List ℕ → ℕ → Type 0
HasWrongLine text place = StopsAfter BeginsRange text place
