use Rattle.std.proofs.Common.{◌≤◌, ℕ, List, length}
use Rattle.virtiofs_map.specs.NodeParts.{IsRow, IsTrieIn, StandsAt}
use Rattle.virtiofs_map.specs.Rule.{MappingRule}
use Rattle.virtiofs_map.specs.declared.xattrmap.scopes.Side.{Side}
use Rattle.virtiofs_map.specs.declared.xattrmap.trie.node.Node.{Node}
use Rattle.virtiofs_map.proofs.xattrmap.trie.walk.walk.Given as goal

-- in each trie whose rows stand there, the walk stands at the node of the row
abbrev pub invariant-loop-child : goal.invariant-loop-child
invariant-loop-child l = record {
  stands : (side : Side) (rules : List MappingRule) (end labels : ℕ) (bytes : List ℕ)
      (inside : IsTrieIn side rules l.trie.rows.image.now l.trie.root end labels bytes)
      → (node : Node) × IsRow inside.first labels node l.row
      × StandsAt side rules inside.nodes bytes inside.trie l.name node l.rest l.fn.steps l.steps;
  within : length l.rest ≤ length l.name;
}

-- what is left of the name
abbrev pub decreases-loop-child : goal.decreases-loop-child
decreases-loop-child l = length l.rest
