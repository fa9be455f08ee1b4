use Rattle.std.proofs.Common.{◌+◌, ◌-◌, ◌*◌, ◌%◌, ap, arith, drop, length, length-drop, take_all}
use Rattle.virtiofs_map.proofs.xattrmap.trie.rows.RowLemmas.{moved_row}
use Rattle.virtiofs_map.proofs.xattrmap.trie.rows.push_placed.Goals as goal

pub returns : goal.returns
returns g c = λ first node is bytes small.
    (moved_row first c.args.labels node c.args.image.now.items _ _ _ c.args.row.now _ is bytes small
    c.in_ok-push_le_u64.ensures c.in_ok-extend_from_slice.ensures.items
    (take_all (length c.args.row.now - 8) (drop 8 c.args.row.now) (omega (arith, length-drop 8 c.args.row.now)))
    (ap (λ n. (n + 65536 * c.args.labels) % 18446744073709551616) c.le_u64_at.ensures))
