use Rattle.std.proofs.Common.{sym, ◌∙◌}
use Rattle.virtiofs_map.specs.NodeParts.{placed}
use Rattle.virtiofs_map.proofs.xattrmap.trie.reading.Rows.child.Goals as goal

pub returns-else-is_sparse : goal.returns-else-is_sparse
returns-else-is_sparse c = λ first labels nodes bytes node has readable row.
    c.dense_child.ensures first labels nodes bytes node has readable row
    (sym (c.is_sparse.ensures (placed first labels node) row) ∙ c.if-is_sparse.false)
