-- What the words of a map stand for, and how they are searched. Only private functions, the invariants of maps
-- and `Image` cite these definitions.
use Rattle.std.specs.Prelude.{◌≡◌, ◌⊎◌, ℕ, ◌+◌, ◌*◌, ◌<◌, ◌≤◌, List, [], ◌∷◌, length, slice_index, slice_get}
use Rattle.std.specs.Prelude.{Some}
use Rattle.virtiofs_map.specs.ImageAnswer.{SaysValue}
use Rattle.virtiofs_map.specs.Mapping.{first_of, EntryCovers, target_of}
use Rattle.virtiofs_map.specs.RangeParts.{AreRanges, AreRangesOf, Searched}
use Rattle.virtiofs_map.specs.declared.cmdline.IdMap.{IdMap}
use Rattle.virtiofs_map.specs.declared.soft_idmap.entry.Direction.{Direction}
use Rattle.virtiofs_map.specs.declared.soft_idmap.entry.Direction.TheVariants.{GuestToHost, HostToGuest}
use Rattle.virtiofs_map.specs.declared.soft_idmap.entry.Entry.{Entry}
use Rattle.virtiofs_map.specs.declared.soft_idmap.entry.Entry.TheVariants.{Map, Squash, Fail}
use Rattle.virtiofs_map.specs.declared.soft_idmap.row.Answer.{Answer}

-- ---- the words

-- with which an image begins and ends: the letters ids, and the version 2
abbrev pub image_kind : ℕ
image_kind = 1768190722

-- three words of a row are those of the range
abbrev pub IsRow : ℕ → ℕ → ℕ → Entry → Type 0
IsRow count to kind (Map first target many) = (count ≡ many) × (to ≡ target) × (kind ≡ 4294967295)
IsRow count to kind (Squash first target many) = (count ≡ many) × (to ≡ target) × (kind ≡ 0)
IsRow count to kind (Fail first many) = (count ≡ many) × (kind ≡ 1)

-- the words from start on are the first numbers of the ranges, up to that many of them
abbrev pub AreFirstsBelow : List ℕ → ℕ → List Entry → ℕ → Type 0
AreFirstsBelow words start ranges count =
    (k : ℕ) (range : Entry) → k < count → slice_get ranges k ≡ Some range
    → slice_index words (start + k) ≡ first_of range

-- the words from start on are the rows of the ranges, up to that many of them
abbrev pub AreRowsBelow : List ℕ → ℕ → List Entry → ℕ → Type 0
AreRowsBelow words start ranges count =
    (k : ℕ) (range : Entry) → k < count → slice_get ranges k ≡ Some range
    → IsRow (slice_index words (start + 3 * k)) (slice_index words (start + 3 * k + 1))
    (slice_index words (start + 3 * k + 2)) range

-- the words before that place are as they were
abbrev pub KeepsBefore : ℕ → List ℕ → List ℕ → Type 0
KeepsBefore at old new = (k : ℕ) → k < at → slice_index new k ≡ slice_index old k

-- where the ranges of a direction stand in the words: their first numbers, their rows, and how many they are
pub record Table : Type 0 where
  pub words : List ℕ
  pub firsts : ℕ
  pub rows : ℕ
  pub count : ℕ

-- there are words for each of the ranges
pub record IsTable (table : Table) : Type 0 where
  pub firsts : 1 ≤ table.count → table.firsts + table.count ≤ length table.words
  pub rows : 1 ≤ table.count → table.rows + 3 * table.count ≤ length table.words
  pub count : table.count < 4294967296

-- the words at an index are those of the range
pub record IsAt (table : Table) (k : ℕ) (range : Entry) : Type 0 where
  pub first : slice_index table.words (table.firsts + k) ≡ first_of range
  pub row : IsRow (slice_index table.words (table.rows + 3 * k)) (slice_index table.words (table.rows + 3 * k + 1))
      (slice_index table.words (table.rows + 3 * k + 2)) range

-- the words are those of the ranges
pub record Tabulates (table : Table) (ranges : List Entry) : Type 0 where
  pub counted : length ranges ≡ table.count
  pub each : (k : ℕ) (range : Entry) → slice_get ranges k ≡ Some range → IsAt table k range

-- the words are those of the ranges of the specifications in that direction
pub record HasRanges (specs : List IdMap) (direction : Direction) (table : Table) : Type 0 where
  pub ranges : List Entry
  pub are : AreRangesOf specs direction ranges
  pub stand : Tabulates table ranges

-- how many ranges there are from guest to host, and from host to guest
abbrev pub guest_count : List ℕ → ℕ
guest_count words = slice_index words 1

abbrev pub host_count : List ℕ → ℕ
host_count words = slice_index words 2

-- where the rows begin
abbrev pub rows_start : List ℕ → ℕ
rows_start words = 3 + guest_count words + host_count words

-- the ranges of a direction
abbrev pub table_in : List ℕ → Direction → Table
table_in words GuestToHost =
    record { words = words; firsts = 3; rows = rows_start words; count = guest_count words }
table_in words HostToGuest =
    record {
      words = words;
      firsts = 3 + guest_count words;
      rows = rows_start words + 3 * guest_count words;
      count =
          host_count words;
    }

-- where the ranges of both directions end
abbrev pub ranges_end : List ℕ → ℕ
ranges_end words = 3 + 4 * guest_count words + 4 * host_count words

-- there are words for the ranges of both directions, and one behind them
abbrev pub HasWords : List ℕ → Type 0
HasWords words = ranges_end words < length words

-- what a map lends that keeps these words: the map of no specification may keep none
abbrev pub words_lent : List ℕ → List ℕ
words_lent [] = image_kind ∷ 0 ∷ 0 ∷ image_kind ∷ []
words_lent (first ∷ rest) = first ∷ rest

-- ---- a search

-- if the words are those of ranges in order, a search has narrowed its result to the places from `index` up to `end`
abbrev pub Searches : Table → ℕ → ℕ → ℕ → Type 0
Searches table n index end =
    (ranges : List Entry) → AreRanges ranges → Tabulates table ranges → Searched ranges n index end

-- ---- an answer

-- the answer says what the range makes of a number that it covers, or that the number stays itself
abbrev pub SaysEntry : Entry → ℕ → Answer → Type 0
SaysEntry entry n answer =
    (EntryCovers entry n × SaysValue (target_of entry n) answer)
    ⊎ ((¬ EntryCovers entry n) × SaysValue (Some n) answer)
