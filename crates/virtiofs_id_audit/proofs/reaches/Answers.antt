use Rattle.std.proofs.Common.{Some, None}
use Rattle.virtiofs_id_audit.proofs.IdAuditLemmas.{IsLeastIfAny-range}
use Rattle.virtiofs_id_audit.proofs.reaches.Goals as goal

pub returns-in_default : goal.returns-in_default
returns-in_default g c =
    let least = IsLeastIfAny-range _ _ None c.in_default.ensures in
    rw (c.number_of.ensures, c.number_of-2.ensures) at least

pub returns : goal.returns
returns g c =
    let least = IsLeastIfAny-range _ _ (Some c.in-Some.n) c.in-Some.ensures in
    rw c.id_of.ensures (rw (c.number_of.ensures, c.number_of-2.ensures) at least)
