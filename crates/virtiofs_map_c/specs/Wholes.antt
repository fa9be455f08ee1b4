-- What C passes as a map: all numbers of one, and no more. And what a make leaves.
use Rattle.std.specs.Prelude.{◌≡◌, ◌⊎◌, ℕ, ◌+◌, ◌*◌, ◌<◌, ◌≤◌, List, [], ◌∷◌, length, take, drop, slice_index}
use Rattle.virtiofs_map.specs.Build.{Accepted}
use Rattle.virtiofs_map.specs.Image as ids
use Rattle.virtiofs_map.specs.NamesImage as names
use Rattle.virtiofs_map.specs.Rule.{MappingRule}
use Rattle.virtiofs_map.specs.declared.cmdline.IdMap.{IdMap as Specification}
use Rattle.virtiofs_map_c.specs.Faults.{ok, no_room}

-- what a make leaves that makes no map: the first number is 0, with which no map begins, and the others are unchanged
abbrev pub cleared : List ℕ → List ℕ
cleared [] = []
cleared (first ∷ rest) = 0 ∷ rest

-- ---- of ids

-- there are as many words as the second and the third one say: four, and four for each range
abbrev pub AreAllWords : List ℕ → Type 0
AreAllWords words = length words ≡ 4 + 4 * slice_index words 1 + 4 * slice_index words 2

-- the words are the image of a map of the specifications, and nothing stands behind it
pub record IsIdMap (specs : List Specification) (words : List ℕ) : Type 0 where
  pub image : ids.IsImage specs words
  pub all : AreAllWords words

-- the words do not begin and end as a map does, or are not as many as they say
abbrev pub IsNoIdMap : List ℕ → Type 0
IsNoIdMap words = ids.IsNoImage words ⊎ (¬ AreAllWords words)

-- The length of the map of the specifications is told. Where the map fits it is the beginning of the words, and the rest
-- of them is as it was; else the first of them is 0.
pub record TellsImage (specs : List Specification) (old : List ℕ) (code wanted : ℕ) (new : List ℕ) : Type 0 where
  pub accepted : Accepted specs
  pub length_told : wanted ≡ ids.image_length specs
  pub fits : ids.image_length specs ≤ length old
      → (code ≡ ok) × IsIdMap specs (take wanted new) × (drop wanted new ≡ drop wanted old)
  pub does_not_fit : length old < ids.image_length specs → (code ≡ no_room) × (new ≡ cleared old)

-- ---- of names

-- there are as many bytes as the sixth number of eight bytes says, and eight more
abbrev pub AreAllBytes : List ℕ → Type 0
AreAllBytes bytes = length bytes ≡ names.part_end bytes 3 + 8

-- the bytes are the image of a map of the rules, and nothing stands behind it
pub record IsNameMap (rules : List MappingRule) (bytes : List ℕ) : Type 0 where
  pub image : names.IsImage rules bytes
  pub all : AreAllBytes bytes

-- the bytes do not begin and end as a map does, or are not as many as they say
abbrev pub IsNoNameMap : List ℕ → Type 0
IsNoNameMap bytes = names.IsNoImage bytes ⊎ (¬ AreAllBytes bytes)
