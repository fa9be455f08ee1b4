use Rattle.std.proofs.Common.{◌≡◌, refl, rules}
use Rattle.virtiofs_id_audit.specs.IdAudit.{AreIdsApart}
use Rattle.virtiofs_id_audit.specs.declared.answer.IdAudit.TheVariants.{Yes}
use Rattle.virtiofs_map_c.proofs.ArraysLemmas.{AreSaid-one, array_complete}
use Rattle.virtiofs_map_c.proofs.IdsFoundLemmas.{not_all, pair_no_fault, pair_first, pair_second, pair_complete, pair_faulty}
use Rattle.virtiofs_map_c.proofs.ids.audits.virtiofs_map_ids_apart.Goals as goal

pub returns-in-Ok-Yes-clause-answer : goal.returns-in-Ok-Yes-clause-answer
returns-in-Ok-Yes-clause-answer c = λ list other are other_are _.
    let yes : c.in-Ok-Yes.field-0 ≡ Yes = search rules in
    rw (AreSaid-one _ list _ are c.in-Ok.ensures.map.0, AreSaid-one _ other _ other_are c.in-Ok-map_behind.ensures.map.0)
    (rw yes at c.in-Ok-Yes.ensures.answer, refl)

pub returns-in-Ok-Yes-clause-apart : goal.returns-in-Ok-Yes-clause-apart
returns-in-Ok-Yes-clause-apart c = λ list other are other_are _.
    rw (AreSaid-one _ list _ are c.in-Ok.ensures.map.0, AreSaid-one _ other _ other_are c.in-Ok-map_behind.ensures.map.0)
    (λ _. c.in-Ok-Yes.ensures.apart.0 (search rules), λ _. search rules)

pub returns-in-Ok-Yes-clause-faulty : goal.returns-in-Ok-Yes-clause-faulty
returns-in-Ok-Yes-clause-faulty c = λ wrong has. absurd (pair_no_fault _ _ (search rules) (search rules) wrong has)

pub returns-in-Ok-No-clause-answer : goal.returns-in-Ok-No-clause-answer
returns-in-Ok-No-clause-answer c = λ list other are other_are _.
    rw (AreSaid-one _ list _ are c.in-Ok.ensures.map.0, AreSaid-one _ other _ other_are c.in-Ok-map_behind.ensures.map.0)
    (search rules)

pub returns-in-Ok-No-clause-apart : goal.returns-in-Ok-No-clause-apart
returns-in-Ok-No-clause-apart c = λ list other are other_are _.
    rw (AreSaid-one _ list _ are c.in-Ok.ensures.map.0, AreSaid-one _ other _ other_are c.in-Ok-map_behind.ensures.map.0)
    (not_all (AreIdsApart c.in-Ok.map c.in-Ok-map_behind.other) c.in-Ok-No.field-0 c.in-Ok-No.guest
    c.in-Ok-No.ensures.apart (search rules))

pub returns-in-Ok-No-clause-faulty : goal.returns-in-Ok-No-clause-faulty
returns-in-Ok-No-clause-faulty c = λ wrong has. absurd (pair_no_fault _ _ (search rules) (search rules) wrong has)

pub returns-in-Err-clause-complete : goal.returns-in-Err-clause-complete
returns-in-Err-clause-complete c = λ first second.
    rw (c.tell.ensures.code, c.tell.ensures.told) (array_complete _ _ _ _ c.in-Err.ensures.refused first)

pub returns-in-Err-clause-faulty : goal.returns-in-Err-clause-faulty
returns-in-Err-clause-faulty c =
    rw (c.tell.ensures.code, c.tell.ensures.told)
    (pair_faulty _ _ _ _ (pair_first _ _ _ _ c.in-Err.ensures.refused))

pub returns-in-Err-map_behind-clause-complete : goal.returns-in-Err-map_behind-clause-complete
returns-in-Err-map_behind-clause-complete c =
    rw (c.tell-in-Err-map_behind.ensures.code, c.tell-in-Err-map_behind.ensures.told)
    (pair_complete _ _ _ _ _ (pair_second _ _ _ _ (search rules) c.in-Err-map_behind.ensures.refused))

pub returns-in-Err-map_behind-clause-faulty : goal.returns-in-Err-map_behind-clause-faulty
returns-in-Err-map_behind-clause-faulty c =
    rw (c.tell-in-Err-map_behind.ensures.code, c.tell-in-Err-map_behind.ensures.told)
    (pair_faulty _ _ _ _ (pair_second _ _ _ _ (search rules) c.in-Err-map_behind.ensures.refused))
