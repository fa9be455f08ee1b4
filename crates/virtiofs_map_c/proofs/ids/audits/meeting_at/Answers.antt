use Rattle.virtiofs_map_c.proofs.IdsFoundLemmas.{goes_into, least_to}
use Rattle.virtiofs_map_c.proofs.ids.audits.meeting_at.Goals as goal

pub unreachable-requires : goal.unreachable-requires
unreachable-requires c = c.in_default.ensures.looks_up.complete _ c.requires.goes.becomes

pub unreachable-requires-in_default-reaches : goal.unreachable-requires-in_default-reaches
unreachable-requires-in_default-reaches c =
    let same = c.in-Ok.ensures.looks_up.complete _ c.requires.goes.becomes in
    c.in_default-reaches.ensures _ (goes_into c.args.other.now c.in-Ok.host _ (rw (← same) at c.requires.is_one.1))

pub returns-clause-told : goal.returns-clause-told
returns-clause-told c =
    rw (c.into_inner.ensures, c.into_inner-2.ensures, c.into_inner-3.ensures) (
      record { is_id = c.requires.goes.is_id; becomes = c.in-Ok.ensures.looks_up.value },
      least_to c.args.other.now c.in-Ok.host c.in-Some.second c.in-Some.ensures,
    )
