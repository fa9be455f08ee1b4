use Rattle.virtiofs_map.proofs.MappingLawLemmas.{HasOneValue-accepted}
use Rattle.virtiofs_map.proofs.soft_idmap.laws.one_value.Goals as goal

pub returns : goal.returns
returns c = HasOneValue-accepted
