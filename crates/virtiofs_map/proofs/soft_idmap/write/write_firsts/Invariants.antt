use Rattle.virtiofs_map.specs.WordParts.{AreFirstsBelow, KeepsBefore}
use Rattle.virtiofs_map.proofs.soft_idmap.write.write_firsts.Given as goal

-- the words so far are the first numbers of the ranges so far
abbrev pub invariant-loop-at : goal.invariant-loop-at
invariant-loop-at l = record {
  firsts : AreFirstsBelow l.words l.start l.ranges l.at;
  before : KeepsBefore l.start l.initial.words l.words;
}
