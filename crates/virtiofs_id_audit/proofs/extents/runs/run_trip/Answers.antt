use Rattle.virtiofs_id_audit.proofs.extents.runs.RunLemmas.{IsRun-trip}
use Rattle.virtiofs_id_audit.proofs.extents.runs.run_trip.Goals as goal

pub returns-clause-run : goal.returns-clause-run
returns-clause-run g c =
    IsRun-trip _ _ _ _ _ c.round_trip.ensures.accepted c.round_trip.ensures.first c.round_trip.ensures.returns
    c.run_moved-run.ensures c.requires c.min.ensures
