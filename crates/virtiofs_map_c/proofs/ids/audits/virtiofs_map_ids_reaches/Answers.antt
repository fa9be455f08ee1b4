use Rattle.std.proofs.Common.{refl}
use Rattle.virtiofs_map_c.proofs.ArraysLemmas.{AreSaid-one, array_complete, array_faulty}
use Rattle.virtiofs_map_c.proofs.ids.audits.virtiofs_map_ids_reaches.Goals as goal

pub returns-in_default-clause-answer : goal.returns-in_default-clause-answer
returns-in_default-clause-answer c = λ list are _.
    rw (AreSaid-one _ list _ are c.in-Ok.ensures.map.0)
    (rw (c.from.ensures, c.from-2.ensures) at c.in_default.ensures, refl)

pub unreachable-requires : goal.unreachable-requires
unreachable-requires c = c.in_default-map_guest.ensures.looks_up.complete _ c.in-Some.ensures.is_bad.goes.becomes

pub returns-clause-answer : goal.returns-clause-answer
returns-clause-answer c = λ list are _.
    let least = rw (c.from.ensures, c.from-2.ensures) at c.in-Some.ensures in
    rw (AreSaid-one _ list _ are c.in-Ok.ensures.map.0) (rw (c.into_inner.ensures, c.into_inner-2.ensures)
    (least, (record { is_id = least.is_bad.goes.is_id; becomes = c.in-Ok-map_guest.ensures.looks_up.value }, refl)))

pub returns-in-Err-clause-complete : goal.returns-in-Err-clause-complete
returns-in-Err-clause-complete c =
    rw (c.tell.ensures.code, c.tell.ensures.told) (array_complete _ _ _ _ c.in-Err.ensures.refused)

pub returns-in-Err-clause-faulty : goal.returns-in-Err-clause-faulty
returns-in-Err-clause-faulty c =
    rw (c.tell.ensures.code, c.tell.ensures.told) (array_faulty _ _ _ c.in-Err.ensures.refused)
