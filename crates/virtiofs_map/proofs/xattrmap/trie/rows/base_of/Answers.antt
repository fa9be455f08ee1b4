use Rattle.std.proofs.Common.{◌%◌, ◌∙◌, ap}
use Rattle.virtiofs_map.proofs.xattrmap.trie.rows.RowLemmas.{dense_flagged, flagged_of, base_of_flagged}
use Rattle.virtiofs_map.proofs.xattrmap.trie.rows.base_of.Goals as goal

pub returns-clause-dense : goal.returns-clause-dense
returns-clause-dense c = λ node of dense.
    flagged_of node c.args.row.now of _ c.le_u64_at.ensures ∙ dense_flagged node.base node.is_sparse dense

pub returns-clause-sparse : goal.returns-clause-sparse
returns-clause-sparse c = λ node of.
    ap (λ n. n % 140737488355328) (flagged_of node c.args.row.now of _ c.le_u64_at.ensures)
    ∙ base_of_flagged node.base node.is_sparse of.small.base
