use Rattle.virtiofs_map.proofs.ForCallers.{Becomes-forbidden}
use Rattle.virtiofs_id_audit.proofs.wandering.Goals as goal

pub unreachable-requires : goal.unreachable-requires
unreachable-requires g c =
    Becomes-forbidden _ _ _ _ c.map_guest.ensures.accepted c.requires.goes.becomes
    (rw c.id_of-guest.ensures at c.in_default.ensures.looks_up.fails)
