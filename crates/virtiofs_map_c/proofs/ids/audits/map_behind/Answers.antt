use Rattle.std.proofs.Common.{◌<◌, length, rules}
use Rattle.virtiofs_map_c.proofs.IdsFoundLemmas.{place_within, told_behind}
use Rattle.virtiofs_map_c.proofs.ids.audits.map_behind.Goals as goal

pub overflow_add-result : goal.overflow_add-result
overflow_add-result c =
    let within : c.in-Err.told.place < length c.args.others.now =
    place_within _ _ _ c.in-Err.ensures.refused c.if-told-eq-NO_PART.false in
    search rules

pub returns-in-Err-2-clause-refused : goal.returns-in-Err-2-clause-refused
returns-in-Err-2-clause-refused c = told_behind _ _ _ _ c.in-Err.ensures.refused c.if-told-eq-NO_PART.false
