-- Maps of ids as plain numbers.
use Rattle.std.specs.Prelude.{◌≡◌, ◌⊎◌, ℕ, ◌+◌, ◌*◌, ◌<◌, ◌≤◌, List, length, take, drop, slice_index}
use Rattle.virtiofs_map.specs.Build.{Accepted}
use Rattle.virtiofs_map.specs.LookupSteps.{acting}
use Rattle.virtiofs_map.specs.WordParts.{HasWords, HasRanges, image_kind, ranges_end, table_in}
use Rattle.virtiofs_map.specs.declared.cmdline.IdMap.{IdMap}
use Rattle.virtiofs_map.specs.declared.soft_idmap.entry.Direction.{Direction}
use Rattle.virtiofs_map.specs.declared.soft_idmap.entry.Direction.TheVariants.{GuestToHost, HostToGuest}

-- the first word is that of an image of this version, so there is a first word
abbrev pub HasKind : List ℕ → Type 0
HasKind words = slice_index words 0 ≡ image_kind

-- the word behind the ranges is the first one again: so a part of an image with zeros behind it is no image
abbrev pub HasEnd : List ℕ → Type 0
HasEnd words = slice_index words (ranges_end words) ≡ image_kind

-- the words do not begin as an image does, or it does not end among them
abbrev pub IsNoImage : List ℕ → Type 0
IsNoImage words = (¬ HasKind words) ⊎ (¬ HasEnd words)

-- the words, or a leading part of them, are the image of a map of the specifications
pub record IsImage (specs : List IdMap) (words : List ℕ) : Type 0 where
  pub kind : HasKind words
  pub ended : HasEnd words
  pub room : HasWords words
  pub accepted : Accepted specs
  pub ranges : (direction : Direction) → HasRanges specs direction (table_in words direction)

-- how many words the image of a map of the specifications has
abbrev pub image_length : List IdMap → ℕ
image_length specs = 4 + 4 * acting specs GuestToHost + 4 * acting specs HostToGuest

-- If the image fits, it is the beginning of the words, and the rest of them is unchanged; else all of them are
-- unchanged.
pub record IsWritten (specs : List IdMap) (old new : List ℕ) : Type 0 where
  pub image : image_length specs ≤ length old → IsImage specs (take (image_length specs) new)
  pub rest : image_length specs ≤ length old → drop (image_length specs) new ≡ drop (image_length specs) old
  pub no_room : length old < image_length specs → new ≡ old
