use Rattle.std.proofs.Common.{◌+◌, Some, None, refl}
use Rattle.virtiofs_id_audit.specs.IdAudit.{GoesTo}
use Rattle.virtiofs_id_audit.proofs.IdAuditLemmas.{IsLeastIfAny-only, SharedAs-next, shares_later}
use Rattle.virtiofs_map.proofs.ForCallers.{Becomes-forbidden}
use Rattle.virtiofs_id_audit.proofs.sharing.Goals as goal

pub unreachable-requires : goal.unreachable-requires
unreachable-requires g c =
    Becomes-forbidden _ _ _ _ c.map_guest.ensures.accepted c.requires.is_bad.1.goes.becomes
    c.in_default.ensures.looks_up.fails

pub unreachable-requires-in_default-least_into : goal.unreachable-requires-in_default-least_into
unreachable-requires-in_default-least_into g c =
    let goes : GoesTo c.args.map.now (g.Guest.Id.number c.args.guest) c.number_of-id.result = record {
      is_id = c.requires.is_bad.1.goes.is_id;
      becomes = rw c.number_of-id.ensures c.in-Ok.ensures.looks_up.value;
    } in
    shares_later _ _ _ c.map_guest.ensures.accepted c.requires goes
    (IsLeastIfAny-only _ (g.Guest.Id.number c.args.guest + 1) _ _ None refl refl
    (rw c.number_of.ensures at c.in_default-least_into.ensures))

pub returns-clause-shares : goal.returns-clause-shares
returns-clause-shares g c =
    let goes : GoesTo c.args.map.now (g.Guest.Id.number c.args.guest) c.number_of-id.result = record {
      is_id = c.requires.is_bad.1.goes.is_id;
      becomes = rw c.number_of-id.ensures c.in-Ok.ensures.looks_up.value;
    } in
    let next =
    IsLeastIfAny-only _ (g.Guest.Id.number c.args.guest + 1) _ _ (Some c.in-Some.other) refl refl
    (rw c.number_of.ensures at c.in-Some.ensures) in
    rw (c.id_of.ensures, ← c.number_of-id.ensures)
    (SharedAs-next _ _ _ _ c.map_guest.ensures.accepted c.requires goes next)
