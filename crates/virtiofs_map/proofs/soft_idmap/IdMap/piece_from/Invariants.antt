use Rattle.std.proofs.Common.{◌≡◌, ◌-◌}
use Rattle.virtiofs_map.specs.Pieces.{IsStretch}
use Rattle.virtiofs_map.proofs.soft_idmap.IdMap.piece_from.Given as goal

-- the numbers so far are one piece
abbrev pub invariant-loop-piece : goal.invariant-loop-piece
invariant-loop-piece g l = record {
  begins : l.piece.first ≡ l.first;
  stretch : IsStretch l.self l.direction l.piece;
}

abbrev pub decreases-loop-piece : goal.decreases-loop-piece
decreases-loop-piece g l = 4294967295 - l.piece.last
