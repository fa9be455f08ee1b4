use Rattle.std.proofs.Common.{Some, None, refl}
use Rattle.virtiofs_id_audit.specs.IdAudit.{GoesInto, ReachedBy, AreIdsApart, Hold}
use Rattle.virtiofs_id_audit.proofs.IdAuditLemmas.{no_where_bad, AreIdsApart-all, AreIdsApart-none, into_same}
use Rattle.virtiofs_id_audit.proofs.ids_apart.Goals as goal

pub returns-in_default-clause-answer : goal.returns-in_default-clause-answer
returns-in_default-clause-answer g c =
    into_same _ (Hold c.in_ok-ids.ids.items) (ReachedBy c.args.other.now) None c.in_ok-ids.ensures
    (rw (c.in_default.is, c.deref.ensures.value) at c.in_ok-least.ensures)

pub returns-in_default-clause-apart : goal.returns-in_default-clause-apart
returns-in_default-clause-apart g c =
    (λ _. AreIdsApart-all c.args.map.now c.args.other.now (returns-in_default-clause-answer g c), λ _. refl)

pub returns-clause-answer : goal.returns-clause-answer
returns-clause-answer g c =
    into_same _ (Hold c.in_ok-ids.ids.items) (ReachedBy c.args.other.now) (Some (g.Guest.Id.number c.in-Some.least))
    c.in_ok-ids.ensures (rw (c.in-Some.is, c.deref.ensures.value) at c.in_ok-least.ensures)

pub returns-clause-apart : goal.returns-clause-apart
returns-clause-apart g c =
    no_where_bad (GoesInto c.args.map.now (ReachedBy c.args.other.now)) (AreIdsApart c.args.map.now c.args.other.now) _
    c.in-Some.least (returns-clause-answer g c).is_bad (AreIdsApart-none c.args.map.now c.args.other.now)
