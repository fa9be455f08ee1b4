use Rattle.std.proofs.Common.{refl}
use Rattle.virtiofs_map.proofs.xattrmap.trie.rows.RowLemmas.{rows_all, rows_next}
use Rattle.virtiofs_map.proofs.xattrmap.trie.rows.push_rows.Goals as goal

pub loop-place-preserved : goal.loop-place-preserved
loop-place-preserved g c = λ first nodes are bytes small.
    rows_next first c.args.labels nodes c.args.rows.now c.args.image.now.items _ _ _ c.loop-place.place are bytes small
    c.loop-place-test.true refl (c.loop-place.invariant first nodes are bytes small) c.in_ok-push_placed.ensures

pub returns : goal.returns
returns g c = λ first nodes are bytes small.
    rows_all first c.args.labels nodes c.args.rows.now c.args.image.now.items _ c.loop-place.place are
    c.loop-place-test.false (c.loop-place.invariant first nodes are bytes small)
