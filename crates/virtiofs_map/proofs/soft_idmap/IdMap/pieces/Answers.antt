use Rattle.virtiofs_map.proofs.PiecesLemmas.{ArePieces-drained}
use Rattle.virtiofs_map.proofs.soft_idmap.IdMap.pieces.Goals as goal

pub returns-clause-all : goal.returns-clause-all
returns-clause-all g c =
    λ pieces drained. ArePieces-drained c.args.self.now c.args.direction _ pieces c.pieces_from.ensures.left drained
