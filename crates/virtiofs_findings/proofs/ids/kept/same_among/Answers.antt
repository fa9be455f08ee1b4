use Rattle.virtiofs_findings.proofs.KeptLemmas.{same_made}
use Rattle.virtiofs_findings.proofs.ids.kept.same_among.Goals as goal

pub returns : goal.returns
returns g c = same_made _ _ _ _ c.in_ok-same.ensures (rw c.as_slice.ensures.value at c.moved_all.ensures)
