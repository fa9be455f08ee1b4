use Rattle.virtiofs_map.proofs.NamespaceLemmas.{SaysNamespace-one}
use Rattle.virtiofs_map.proofs.idmap.laws.one_value.Goals as goal

pub returns : goal.returns
returns c = SaysNamespace-one
