use Rattle.virtiofs_map_c.proofs.IdsLemmas.{tells_value, tells_code, tells_none}
use Rattle.virtiofs_map_c.proofs.ids.virtiofs_map_ids_to_host.Goals as goal

pub returns-clause-exact : goal.returns-clause-exact
returns-clause-exact c =
    λ specs value image becomes. tells_value c.args.guest value _ _ _ _ c.tell_answer.ensures
    (c.look_up-answer.ensures.exact specs value image.image becomes)

pub returns-clause-no_id : goal.returns-clause-no_id
returns-clause-no_id c = tells_none c.args.guest _ _ _ _ c.tell_answer.ensures

pub returns-clause-code : goal.returns-clause-code
returns-clause-code c = tells_code c.args.guest _ _ _ _ c.tell_answer.ensures
