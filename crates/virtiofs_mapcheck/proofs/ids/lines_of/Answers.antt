use Rattle.virtiofs_mapcheck.proofs.QueryLineLemmas.{lines_more}
use Rattle.virtiofs_mapcheck.proofs.ids.lines_of.Goals as goal

pub loop-query-preserved : goal.loop-query-preserved
loop-query-preserved g c =
    let (lines, answered, whole) = c.loop-query.invariant in
    let (line, is, same) = c.in_ok-push_line.ensures in
    lines_more _ _ _ _ lines line _ _ c.loop-query-test.true answered is whole same
