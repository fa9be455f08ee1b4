use Rattle.virtiofs_findings.proofs.KeptLemmas.{uncovered_made}
use Rattle.virtiofs_findings.proofs.ids.kept.uncovered.Goals as goal

pub returns : goal.returns
returns g c = uncovered_made _ _ _ c.in_ok-covers.ensures (rw c.as_slice.ensures.value at c.ids_of_none.ensures)
