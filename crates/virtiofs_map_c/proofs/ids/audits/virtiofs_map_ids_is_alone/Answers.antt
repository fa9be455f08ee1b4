use Rattle.std.proofs.Common.{◌≡◌, refl, rules}
use Rattle.virtiofs_id_audit.specs.declared.answer.IdAudit.TheVariants.{Yes}
use Rattle.virtiofs_map_c.proofs.ArraysLemmas.{AreSaid-one, array_complete, array_faulty}
use Rattle.virtiofs_map_c.proofs.ids.audits.virtiofs_map_ids_is_alone.Goals as goal

pub returns-in-Ok-Yes-clause-answer : goal.returns-in-Ok-Yes-clause-answer
returns-in-Ok-Yes-clause-answer c = λ list are _.
    let yes : c.in-Ok-Yes.field-0 ≡ Yes = search rules in
    rw (AreSaid-one _ list _ are c.in-Ok.ensures.map.0) (rw yes at c.in-Ok-Yes.ensures.answer, refl)

pub returns-in-Ok-Yes-clause-alone : goal.returns-in-Ok-Yes-clause-alone
returns-in-Ok-Yes-clause-alone c = λ list are _.
    rw (AreSaid-one _ list _ are c.in-Ok.ensures.map.0) (λ _. c.in-Ok-Yes.ensures.alone.0 (search rules), λ _. search rules)

pub returns-in-Ok-No-clause-answer : goal.returns-in-Ok-No-clause-answer
returns-in-Ok-No-clause-answer c = λ list are _. rw (AreSaid-one _ list _ are c.in-Ok.ensures.map.0) (search rules)

pub returns-in-Ok-No-clause-alone : goal.returns-in-Ok-No-clause-alone
returns-in-Ok-No-clause-alone c = λ list are _. rw (AreSaid-one _ list _ are c.in-Ok.ensures.map.0) (search rules)

pub returns-in-Err-clause-complete : goal.returns-in-Err-clause-complete
returns-in-Err-clause-complete c =
    rw (c.tell.ensures.code, c.tell.ensures.told) (array_complete _ _ _ _ c.in-Err.ensures.refused)

pub returns-in-Err-clause-faulty : goal.returns-in-Err-clause-faulty
returns-in-Err-clause-faulty c =
    rw (c.tell.ensures.code, c.tell.ensures.told) (array_faulty _ _ _ c.in-Err.ensures.refused)
