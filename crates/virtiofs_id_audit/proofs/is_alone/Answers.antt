use Rattle.std.proofs.Common.{Some, None, refl}
use Rattle.virtiofs_id_audit.specs.IdAudit.{IsShared, IsAlone}
use Rattle.virtiofs_id_audit.proofs.IdAuditLemmas.{no_where_bad, IsAlone-all, IsAlone-none, IsLeastIfAny-shared}
use Rattle.virtiofs_id_audit.proofs.is_alone.Goals as goal

pub returns-in_default-clause-answer : goal.returns-in_default-clause-answer
returns-in_default-clause-answer g c =
    IsLeastIfAny-shared c.args.map.now c.in_ok-images.images.items _ c.in_ok-images.ensures (rw c.deref.ensures.value at c.in_ok-twice.ensures) None
    (rw (c.in_default.is, c.deref-2.ensures.value) at c.in_ok-guest.ensures)

pub returns-in_default-clause-alone : goal.returns-in_default-clause-alone
returns-in_default-clause-alone g c =
    (λ _. IsAlone-all c.args.map.now (returns-in_default-clause-answer g c), λ _. refl)

pub sharing-requires : goal.sharing-requires
sharing-requires g c =
    IsLeastIfAny-shared c.args.map.now c.in_ok-images.images.items _ c.in_ok-images.ensures (rw c.deref.ensures.value at c.in_ok-twice.ensures)
    (Some (g.Guest.Id.number c.in-Some.guest)) (rw (c.in-Some.is, c.deref-2.ensures.value) at c.in_ok-guest.ensures)

pub returns-clause-answer : goal.returns-clause-answer
returns-clause-answer g c =
    rw c.sharing.ensures.guest
    (IsLeastIfAny-shared c.args.map.now c.in_ok-images.images.items _ c.in_ok-images.ensures (rw c.deref.ensures.value at c.in_ok-twice.ensures)
    (Some (g.Guest.Id.number c.in-Some.guest)) (rw (c.in-Some.is, c.deref-2.ensures.value) at c.in_ok-guest.ensures))

pub returns-clause-alone : goal.returns-clause-alone
returns-clause-alone g c =
    no_where_bad (IsShared c.args.map.now) (IsAlone c.args.map.now) _ c.sharing.result
    (returns-clause-answer g c).is_bad (IsAlone-none c.args.map.now)
