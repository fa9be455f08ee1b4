use Rattle.virtiofs_map_c.proofs.MakesLemmas.{refused_complete, refused_faulty}
use Rattle.virtiofs_map_c.proofs.TextsLemmas.{SaysSpec-no_fault, HasTextFault-one, text_told}
use Rattle.virtiofs_map_c.specs.Texts.{HasTextFault, IsTextTold}
use Rattle.virtiofs_map_c.proofs.texts.virtiofs_map_spec_read.Goals as goal

pub returns-in-Ok-clause-faulty : goal.returns-in-Ok-clause-faulty
returns-in-Ok-clause-faulty c = λ wrong has. absurd (SaysSpec-no_fault _ _ wrong c.in-Ok.ensures.read has)

pub returns-in-Err-clause-complete : goal.returns-in-Err-clause-complete
returns-in-Err-clause-complete c = λ one says.
    refused_complete _ (HasTextFault _) (IsTextTold _ _ _ _)
    (text_told _ _ _ _ _ _ c.tell.ensures.code c.tell.ensures.told c.in-Err.ensures.refused)
    (λ fault. SaysSpec-no_fault _ one fault says)

pub returns-in-Err-clause-faulty : goal.returns-in-Err-clause-faulty
returns-in-Err-clause-faulty c = λ wrong has.
    refused_faulty (HasTextFault _) (IsTextTold _ _ _ _)
    (text_told _ _ _ _ _ _ c.tell.ensures.code c.tell.ensures.told c.in-Err.ensures.refused) wrong
    (λ other it. HasTextFault-one _ other wrong it has)
