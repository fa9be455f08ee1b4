use Rattle.std.proofs.Common.{refl, rules}
use Rattle.virtiofs_id_audit.specs.IdAudit.{ComesBack}
use Rattle.virtiofs_map_c.proofs.ArraysLemmas.{AreSaid-one, array_complete, array_faulty}
use Rattle.virtiofs_map_c.proofs.IdsFoundLemmas.{not_all}
use Rattle.virtiofs_map_c.proofs.ids.audits.virtiofs_map_ids_comes_back.Goals as goal

pub returns-in-Yes-clause-answer : goal.returns-in-Yes-clause-answer
returns-in-Yes-clause-answer c = λ list are _.
    rw (AreSaid-one _ list _ are c.in-Ok.ensures.map.0) (c.in-Yes.ensures.answer, refl)

pub returns-in-Yes-clause-comes_back : goal.returns-in-Yes-clause-comes_back
returns-in-Yes-clause-comes_back c = λ list are _.
    rw (AreSaid-one _ list _ are c.in-Ok.ensures.map.0) (λ _. c.in-Yes.ensures.comes_back.0 refl, λ _. search rules)

pub returns-clause-answer : goal.returns-clause-answer
returns-clause-answer c = λ list are _. rw (AreSaid-one _ list _ are c.in-Ok.ensures.map.0) (search rules)

pub returns-clause-comes_back : goal.returns-clause-comes_back
returns-clause-comes_back c = λ list are _.
    rw (AreSaid-one _ list _ are c.in-Ok.ensures.map.0)
    (not_all (ComesBack c.in-Ok.map) _ _ c.in-No.ensures.comes_back refl)

pub returns-in-Err-clause-complete : goal.returns-in-Err-clause-complete
returns-in-Err-clause-complete c =
    rw (c.tell.ensures.code, c.tell.ensures.told) (array_complete _ _ _ _ c.in-Err.ensures.refused)

pub returns-in-Err-clause-faulty : goal.returns-in-Err-clause-faulty
returns-in-Err-clause-faulty c =
    rw (c.tell.ensures.code, c.tell.ensures.told) (array_faulty _ _ _ c.in-Err.ensures.refused)
