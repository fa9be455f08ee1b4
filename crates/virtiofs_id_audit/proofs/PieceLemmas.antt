-- What the numbers of a piece become, by what the first one becomes.
use Rattle.std.proofs.Common.{◌≡◌, ℕ, ◌+◌, ◌-◌, ◌<◌, ◌≤◌, true, false, Some, None, arith}
use Rattle.std.proofs.lemmas.Bool.{false≢true}
use Rattle.std.proofs.lemmas.Option.{same_Some}
use Rattle.virtiofs_map.specs.Pieces.{is_one_to_one, value_by, value_in, IsNamed}
use Rattle.virtiofs_map.specs.declared.soft_idmap.piece.Outcome.{Outcome}
use Rattle.virtiofs_map.specs.declared.soft_idmap.piece.Piece.{Piece}

-- ---- what numbers become

-- one after the other
each_by : (outcome : Outcome) (first to n : ℕ) → is_one_to_one outcome ≡ true → Some to ≡ value_by outcome first first
    → first ≤ n → value_by outcome first n ≡ Some (to + (n - first))
each_by outcome first to n is start from = grind (arith, same_Some, false≢true)

pub value-each : (piece : Piece) (to n : ℕ) → is_one_to_one piece.becomes ≡ true → Some to ≡ value_in piece piece.first
    → piece.first ≤ n → value_in piece n ≡ Some (to + (n - piece.first))
value-each piece to n is start from = each_by piece.becomes piece.first to n is start from

-- where they are not one after the other, they are two or more and all become one number
not_each_by : (outcome : Outcome) (first last to : ℕ) → is_one_to_one outcome ≡ false
    → Some to ≡ value_by outcome first first → IsNamed outcome first last
    → (first < last) × ((n : ℕ) → value_by outcome first n ≡ Some to)
not_each_by outcome first last to is start named = grind (arith, false≢true)

pub value-not_each : (piece : Piece) (to : ℕ) → is_one_to_one piece.becomes ≡ false
    → Some to ≡ value_in piece piece.first → IsNamed piece.becomes piece.first piece.last
    → (piece.first < piece.last) × ((n : ℕ) → value_in piece n ≡ Some to)
value-not_each piece to is start named = not_each_by piece.becomes piece.first piece.last to is start named

-- no number of a piece fails where the first one does not
forbidden_by : (outcome : Outcome) (first n : ℕ) → None ≡ value_by outcome first first → value_by outcome first n ≡ None
forbidden_by outcome first n none = grind arith

pub value-forbidden : (piece : Piece) (n : ℕ) → None ≡ value_in piece piece.first → value_in piece n ≡ None
value-forbidden piece n none = forbidden_by piece.becomes piece.first n none
