use Rattle.virtiofs_map_c.proofs.NamesLemmas.{decision_code}
use Rattle.virtiofs_map_c.proofs.names.virtiofs_map_name_to_host_bytes.Goals as goal

pub returns-clause-code : goal.returns-clause-code
returns-clause-code c = decision_code c.decide-decision.result _ _ _ _ _ c.tell_client.ensures
