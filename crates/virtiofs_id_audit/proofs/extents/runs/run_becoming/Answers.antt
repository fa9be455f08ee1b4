use Rattle.std.proofs.Common.{sym}
use Rattle.virtiofs_id_audit.proofs.extents.runs.RunLemmas.{IsRun-each}
use Rattle.virtiofs_id_audit.proofs.extents.runs.run_becoming.Goals as goal

pub returns : goal.returns
returns c =
    rw c.min-above.ensures
    (IsRun-each _ _ _ _ c.requires.order (sym c.if-not-is_one_to_one.ensures) c.in-Some.ensures c.run_in-run.ensures)
