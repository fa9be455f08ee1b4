use Rattle.std.proofs.Common.{◌-◌, ◌≤◌, length}
use Rattle.virtiofs_map.specs.PatternTrie.{nodes_in_all}
use Rattle.virtiofs_map.specs.TrieBuildParts.{AreMade, texts_of}
use Rattle.virtiofs_map.proofs.xattrmap.trie.build.build_trie.Given as goal

-- the first ranges have rows
abbrev pub invariant-loop-at : goal.invariant-loop-at
invariant-loop-at g l = record {
  within : l.at ≤ length l.ranges.items;
  made : AreMade l.patterns l.ranges.items l.rows.items l.first l.at;
}

-- how many nodes are to come
abbrev pub decreases-loop-at : goal.decreases-loop-at
decreases-loop-at g l = nodes_in_all (texts_of l.patterns) - l.at
