use Rattle.std.proofs.Common.{◌≡◌, ◌+◌, ◌++◌, length, ap, ◌∙◌, if◌then◌else◌, sym}
use Rattle.std.proofs.lemmas.Result.{IfOk-weaker}
use Rattle.virtiofs_map.specs.LeU64Parts.{le_u64_bytes}
use Rattle.virtiofs_map.specs.NodeParts.{IsSmall, row_of}
use Rattle.virtiofs_map.proofs.xattrmap.trie.rows.RowLemmas.{first_wrapped, pushed_length, pushed_row, second_wrapped}
use Rattle.virtiofs_map.proofs.xattrmap.trie.rows.push_row.Goals as goal
use Rattle.virtiofs_map.proofs.xattrmap.trie.rows.push_row.Goals.{then-node, else-node}

pub returns-clause-row : goal.returns-clause-row
returns-clause-row g c =
    let flag : c.if-node.flag ≡ (if c.args.node.is_sparse then 140737488355328 else 0) =
    elim c.if-node.branch [
      | then-node w ↦ w.flag-is ∙ ap (λ b. if b then 140737488355328 else 0) (sym w.if-node.true)
      | else-node w ↦ w.flag-is ∙ ap (λ b. if b then 140737488355328 else 0) (sym w.if-node.false)
    ] in
    IfOk-weaker c.push_le_u64-3.result (λ _. c.push_le_u64-3.new.bytes.items
    ≡ c.push_le_u64-2.new.bytes.items ++ le_u64_bytes c.args.node.answer)
    (λ _. IsSmall c.args.node → c.push_le_u64-3.new.bytes.items ≡ c.args.rows.now.items ++ row_of c.args.node)
    (λ _ third small. third
    ∙ pushed_row c.args.node c.args.rows.now.items _ _ _ _ c.in_ok-push_le_u64.ensures c.in_ok-push_le_u64-2.ensures
    (first_wrapped c.args.node small c.requires) (second_wrapped c.args.node c.if-node.flag flag small c.requires))
    c.push_le_u64-3.ensures

pub returns-clause-long : goal.returns-clause-long
returns-clause-long g c =
    IfOk-weaker c.push_le_u64-3.result (λ _. c.push_le_u64-3.new.bytes.items
    ≡ c.push_le_u64-2.new.bytes.items ++ le_u64_bytes c.args.node.answer)
    (λ _. length c.push_le_u64-3.new.bytes.items ≡ length c.args.rows.now.items + 24)
    (λ _ third. pushed_length c.args.rows.now.items _ _ _ _ _ _ c.in_ok-push_le_u64.ensures
    c.in_ok-push_le_u64-2.ensures third)
    c.push_le_u64-3.ensures
