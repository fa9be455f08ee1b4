use Rattle.std.proofs.Common.{◌≡◌, ◌++◌, ℕ, List, All, take, flat_map}
use Rattle.virtiofs_map.specs.NodeParts.{HasBytes, IsSmallIn, row_in}
use Rattle.virtiofs_map.specs.declared.xattrmap.trie.node.Node.{Node}
use Rattle.virtiofs_map.proofs.xattrmap.trie.rows.push_rows.Given as goal

-- the rows so far are those of the nodes so far
abbrev pub invariant-loop-place : goal.invariant-loop-place
invariant-loop-place g l =
    (first : ℕ) (nodes : List Node) → l.rows ≡ flat_map (row_in first 0) nodes → All HasBytes nodes
    → All (IsSmallIn first l.labels) nodes
    → l.image.items ≡ l.initial.image.items ++ flat_map (row_in first l.labels) (take l.place nodes)
