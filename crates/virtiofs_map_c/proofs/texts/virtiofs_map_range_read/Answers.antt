use Rattle.virtiofs_map_c.proofs.TextsLemmas.{range_refused, range_none, range_no_fault, range_faulty}
use Rattle.virtiofs_map_c.proofs.texts.virtiofs_map_range_read.Goals as goal

pub returns-in-Err-from_str-clause-refused : goal.returns-in-Err-from_str-clause-refused
returns-in-Err-from_str-clause-refused c = λ _. range_refused _ _ _ _ _ _ c.in-Ok.ensures.cases
    c.in-Err-from_str.ensures.refused c.told_of_range.ensures c.tell-in-Err-from_str.ensures.code
    c.tell-in-Err-from_str.ensures.told

pub returns-in-Err-from_str-clause-complete : goal.returns-in-Err-from_str-clause-complete
returns-in-Err-from_str-clause-complete c = λ inside outside count says.
    absurd (range_none _ _ _ c.in-Ok.ensures.cases c.in-Err-from_str.ensures.refused inside outside count says)

pub returns-in-Ok-from_str-clause-faulty : goal.returns-in-Ok-from_str-clause-faulty
returns-in-Ok-from_str-clause-faulty c = λ wrong has.
    absurd (range_no_fault _ _ _ _ _ c.in-Ok.ensures.cases c.in-Ok-from_str.ensures.read wrong has)

pub returns-in-Err-from_str-clause-faulty : goal.returns-in-Err-from_str-clause-faulty
returns-in-Err-from_str-clause-faulty c = λ wrong has.
    range_faulty _ _ _ _ _ _ c.in-Ok.ensures.cases c.in-Err-from_str.ensures.refused c.told_of_range.ensures
    c.tell-in-Err-from_str.ensures.code c.tell-in-Err-from_str.ensures.told wrong has
