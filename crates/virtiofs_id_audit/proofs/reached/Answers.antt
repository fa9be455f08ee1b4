use Rattle.virtiofs_id_audit.proofs.IdAuditLemmas.{reached_all}
use Rattle.virtiofs_id_audit.proofs.reached.Goals as goal

pub returns : goal.returns
returns g c =
    reached_all _ _ _ c.in_ok-images.ensures (rw c.deref.ensures.value at c.in_ok-merged.ensures.hold)
