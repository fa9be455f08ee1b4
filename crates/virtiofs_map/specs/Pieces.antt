-- What all numbers become, as pieces that follow one another.
use Rattle.std.specs.Prelude.{◌≡◌, ◌≢◌, ℕ, ◌+◌, ◌-◌, ◌*◌, ◌<◌, ◌≤◌, Bool, true, false, List, [], ◌∷◌, length, All}
use Rattle.std.specs.Prelude.{Option, Some, None, ⊤}
use Rattle.std.specs.Iterator.{Count, at_most}
use Rattle.virtiofs_map.specs.LookupSteps.{acting}
use Rattle.virtiofs_map.specs.Mapping.{Becomes}
use Rattle.virtiofs_map.specs.declared.cmdline.IdMap.{IdMap}
use Rattle.virtiofs_map.specs.declared.soft_idmap.entry.Direction.{Direction}
use Rattle.virtiofs_map.specs.declared.soft_idmap.piece.Outcome.{Outcome}
use Rattle.virtiofs_map.specs.declared.soft_idmap.piece.Outcome.TheVariants.{Kept, OneToOne, AllToOne, Forbidden}
use Rattle.virtiofs_map.specs.declared.soft_idmap.piece.Piece.{Piece}

-- ---- one piece

-- what a number becomes by an outcome, of numbers from first on: itself, the one as far above the target, the target,
-- or nothing where its use fails
abbrev pub value_by : Outcome → ℕ → ℕ → Option ℕ
value_by Kept first n = Some n
value_by (OneToOne to) first n = Some (to + (n - first))
value_by (AllToOne to) first n = Some to
value_by Forbidden first n = None

-- what a number of the piece becomes
abbrev pub value_in : Piece → ℕ → Option ℕ
value_in piece n = value_by piece.becomes piece.first n

-- each number from first to last becomes what the outcome says
abbrev pub BecomeBy : List IdMap → Direction → ℕ → ℕ → Outcome → Type 0
BecomeBy specs direction first last outcome = (n : ℕ) → first ≤ n → n ≤ last
    → Becomes specs direction n (value_by outcome first n)

-- the numbers from first to last are one piece: some outcome says what each becomes
abbrev pub AreOne : List IdMap → Direction → ℕ → ℕ → Type 0
AreOne specs direction first last = (outcome : Outcome) × BecomeBy specs direction first last outcome

-- the outcome is named for what becomes of the numbers: one number that becomes itself is kept, and all to one are two
-- numbers or more; and what they become are ids
abbrev pub IsNamed : Outcome → ℕ → ℕ → Type 0
IsNamed Kept first last = ⊤
IsNamed (OneToOne to) first last = (to ≢ first) × (to + (last - first) ≤ 4294967295)
IsNamed (AllToOne to) first last = first < last
IsNamed Forbidden first last = ⊤

-- the piece has the numbers from first to last, and each becomes what values says
pub record IsMade (first last : ℕ) (values : ℕ → Option ℕ) (piece : Piece) : Type 0 where
  pub first_is : piece.first ≡ first
  pub last_is : piece.last ≡ last
  pub named : IsNamed piece.becomes first last
  pub value : (n : ℕ) → first ≤ n → n ≤ last → value_in piece n ≡ values n

-- the numbers of the piece become numbers one after the other
abbrev pub is_one_to_one : Outcome → Bool
is_one_to_one Kept = true
is_one_to_one (OneToOne to) = true
is_one_to_one (AllToOne to) = false
is_one_to_one Forbidden = false

-- a piece of a map in that direction, which may go on after its last number
pub record IsStretch (specs : List IdMap) (direction : Direction) (piece : Piece) : Type 0 where
  pub order : piece.first ≤ piece.last
  pub within : piece.last ≤ 4294967295
  pub named : IsNamed piece.becomes piece.first piece.last
  pub becomes : BecomeBy specs direction piece.first piece.last piece.becomes

-- a piece of the map in that direction, as long as it can be: the number after its last is of another one
pub record IsPiece (specs : List IdMap) (direction : Direction) (piece : Piece) : Type 0 where
  pub order : piece.first ≤ piece.last
  pub within : piece.last ≤ 4294967295
  pub named : IsNamed piece.becomes piece.first piece.last
  pub becomes : BecomeBy specs direction piece.first piece.last piece.becomes
  pub longest : piece.last < 4294967295 → ¬ AreOne specs direction piece.first (piece.last + 1)

-- ---- all pieces

-- the pieces follow one another, without a gap, from that number to the greatest one
abbrev pub FollowFrom : ℕ → List Piece → Type 0
FollowFrom next [] = next ≡ 4294967296
FollowFrom next (piece ∷ pieces) = (piece.first ≡ next) × FollowFrom (piece.last + 1) pieces

-- the pieces of the map in that direction, in order; so no two neighbours are one piece
pub record ArePieces (specs : List IdMap) (direction : Direction) (pieces : List Piece) : Type 0 where
  pub follow : FollowFrom 0 pieces
  pub each : All (IsPiece specs direction) pieces
  pub few : length pieces ≤ 2 * acting specs direction + 1

-- ---- one piece after the other

-- what an iterator has yet to tell: the pieces of the numbers from next on
pub record PiecesLeft : Type 0 where
  pub specs : List IdMap
  pub direction : Direction
  pub next : ℕ

-- a call gives the piece that begins at the first number that is left, and leaves the numbers after it; where none is
-- left, it gives nothing, and leaves nothing
abbrev pub GivesPiece : PiecesLeft → Option Piece → PiecesLeft → Type 0
GivesPiece left None after = (left.next ≡ 4294967296) × (after ≡ left)
GivesPiece left (Some piece) after =
    IsPiece left.specs left.direction piece × (piece.first ≡ left.next)
    × (after ≡ record left { next = piece.last + 1 })

-- there are no more pieces than numbers
abbrev pub numbers_left : PiecesLeft → Count
numbers_left left = at_most (4294967296 - left.next)
