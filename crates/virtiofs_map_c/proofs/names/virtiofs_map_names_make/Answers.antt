use Rattle.virtiofs_map_c.proofs.MakesLemmas.{refused_complete, refused_faulty}
use Rattle.virtiofs_map_c.proofs.RulesLemmas.{BytesSayRules-no_fault, HasBytesFault-one}
use Rattle.virtiofs_map_c.specs.Texts.{HasBytesFault, IsBytesTold}
use Rattle.virtiofs_map_c.proofs.names.virtiofs_map_names_make.Goals as goal

pub returns-in-Ok-clause-faulty : goal.returns-in-Ok-clause-faulty
returns-in-Ok-clause-faulty c = λ wrong has.
    (let (rules, says, tells) = c.in-Ok.ensures.made in
    absurd (BytesSayRules-no_fault _ rules wrong says has))

pub returns-in-Err-clause-complete : goal.returns-in-Err-clause-complete
returns-in-Err-clause-complete c = λ rules says.
    rw (c.tell.ensures.code, c.tell.ensures.told)
    (refused_complete _ (HasBytesFault _) (IsBytesTold _ _ _ _) c.in-Err.ensures.refused
    (λ fault. BytesSayRules-no_fault _ rules fault says))

pub returns-in-Err-clause-faulty : goal.returns-in-Err-clause-faulty
returns-in-Err-clause-faulty c = λ wrong has.
    rw (c.tell.ensures.code, c.tell.ensures.told)
    (refused_faulty (HasBytesFault _) (IsBytesTold _ _ _ _) c.in-Err.ensures.refused wrong
    (λ other it. HasBytesFault-one _ other wrong it has))
