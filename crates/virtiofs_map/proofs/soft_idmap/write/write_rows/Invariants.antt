use Rattle.virtiofs_map.specs.WordParts.{AreRowsBelow, KeepsBefore}
use Rattle.virtiofs_map.proofs.soft_idmap.write.write_rows.Given as goal

-- the rows so far are those of the ranges so far
abbrev pub invariant-loop-at : goal.invariant-loop-at
invariant-loop-at l = record {
  rows : AreRowsBelow l.words l.start l.ranges l.at;
  before : KeepsBefore l.start l.initial.words l.words;
}
