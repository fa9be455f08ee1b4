use Rattle.std.proofs.Common.{◌≡◌, ◌+◌, ◌<◌, ℕ, List, Some, slice_get}
use Rattle.virtiofs_map.specs.NodeParts.{HasRows, IsReadable, IsRow}
use Rattle.virtiofs_map.specs.declared.xattrmap.trie.node.Node.{Node}
use Rattle.virtiofs_map.proofs.xattrmap.trie.reading.Rows.sparse_child.Given as goal

-- the byte leads to none of the places so far
abbrev pub invariant-loop-behind : goal.invariant-loop-behind
invariant-loop-behind l =
    (first labels : ℕ) (nodes : List Node) (bytes : List ℕ) (node : Node)
    → HasRows l.self.image.now first labels nodes → IsReadable nodes bytes node
    → IsRow first labels node l.parent
    → (k : ℕ) (child : Node) → k < l.behind → slice_get nodes (node.base + k) ≡ Some child
    → child.first_byte ≡ l.byte → ⊥
