use Rattle.std.proofs.Common.{refl}
use Rattle.virtiofs_findings.proofs.IdLemmas.{acting_here, moved_one}
use Rattle.virtiofs_findings.proofs.ids.audits.acting_as_root.Goals as goal

pub returns : goal.returns
returns g c =
    acting_here c.ids_to.result c.args.map.now c.args.ranges.now c.in_ok-inside.inside.items
    (moved_one _ _ 0 _ refl refl c.in_ok-inside.ensures) (rw c.as_slice.ensures.value at c.ids_to.ensures)
