use Rattle.std.proofs.Common.{All, length}
use Rattle.virtiofs_map.specs.NodeParts.{ArePatterns}
use Rattle.virtiofs_map.specs.TrieBuildParts.{IsReady}
use Rattle.virtiofs_map.proofs.xattrmap.trie.patterns.fill_patterns.Given as goal

-- the patterns so far are those of the rules so far
abbrev pub invariant-loop-place : goal.invariant-loop-place
invariant-loop-place g l =
    ArePatterns l.side l.rules.list l.rules.bytes l.place l.patterns.items × All (IsReady (length l.rules.bytes)) l.patterns.items
