-- What the parts of a piece's making say. Only private functions cite these definitions.
use Rattle.std.specs.Prelude.{◌≡◌, ◌==◌, ℕ, Bool, true, false, ◌≤◌, List}
use Rattle.virtiofs_map.specs.Pieces.{value_by, value_in, IsNamed}
use Rattle.virtiofs_map.specs.WordParts.{Table, IsAt, HasRanges}
use Rattle.virtiofs_map.specs.declared.cmdline.IdMap.{IdMap}
use Rattle.virtiofs_map.specs.declared.soft_idmap.entry.Direction.{Direction}
use Rattle.virtiofs_map.specs.declared.soft_idmap.entry.Entry.{Entry}
use Rattle.virtiofs_map.specs.declared.soft_idmap.piece.Outcome.{Outcome}
use Rattle.virtiofs_map.specs.declared.soft_idmap.piece.Outcome.TheVariants.{Kept, OneToOne, AllToOne, Forbidden}
use Rattle.virtiofs_map.specs.declared.soft_idmap.piece.Piece.{Piece}

-- the words are those of the ranges of some specifications, in some direction
abbrev pub AreOfSome : Table → Type 0
AreOfSome table = (specs : List IdMap) × (direction : Direction) × HasRanges specs direction table

-- the range is the one whose words stand at that place
abbrev pub IsRead : Table → ℕ → Entry → Type 0
IsRead table at range = (other : Entry) → IsAt table at other → range ≡ other

-- the numbers from first to last all become one number
abbrev pub is_all_to_one : Outcome → ℕ → ℕ → Bool
is_all_to_one Kept first last = first == last
is_all_to_one (OneToOne to) first last = first == last
is_all_to_one (AllToOne to) first last = true
is_all_to_one Forbidden first last = false

-- the numbers of the piece and the first one of the other are one piece: some outcome says what each becomes
abbrev pub CanJoin : Piece → Piece → Type 0
CanJoin piece more = (outcome : Outcome)
    × ((n : ℕ) → piece.first ≤ n → n ≤ piece.last → value_by outcome piece.first n ≡ value_in piece n)
    × (value_by outcome piece.first more.first ≡ value_in more more.first)

-- the longer piece begins as the piece does, and goes on as the other one does, up to some number of it
pub record Joins (piece more longer : Piece) : Type 0 where
  pub first_is : longer.first ≡ piece.first
  pub from : more.first ≤ longer.last
  pub to : longer.last ≤ more.last
  pub named : IsNamed longer.becomes longer.first longer.last
  pub value : (n : ℕ) → piece.first ≤ n → n ≤ piece.last → value_in longer n ≡ value_in piece n
  pub value_more : (n : ℕ) → more.first ≤ n → n ≤ longer.last → value_in longer n ≡ value_in more n
