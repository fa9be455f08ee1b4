use Rattle.std.proofs.Common.{◌∙◌}
use Rattle.virtiofs_map.proofs.PiecesLemmas.{IsStretch-join, IsPiece-longest}
use Rattle.virtiofs_map.proofs.soft_idmap.IdMap.piece_from.Goals as goal

pub returns-in_default-clause-piece : goal.returns-in_default-clause-piece
returns-in_default-clause-piece g c =
    IsPiece-longest c.args.self.now c.args.direction c.loop-piece.piece c.stretch-more.result
    c.stretch-more.ensures.accepted c.loop-piece.invariant.stretch c.stretch-more.ensures.stretch
    c.stretch-more.ensures.first c.in_default.ensures.none

pub loop-piece-preserved : goal.loop-piece-preserved
loop-piece-preserved g c = record {
  begins = c.in-Some.ensures.some.first_is ∙ c.loop-piece.invariant.begins;
  stretch =
      IsStretch-join c.args.self.now c.args.direction c.loop-piece.piece c.stretch-more.result c.in-Some.longer
      c.loop-piece.invariant.stretch c.stretch-more.ensures.stretch c.stretch-more.ensures.first c.in-Some.ensures.some;
}
