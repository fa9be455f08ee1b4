use Rattle.virtiofs_map.proofs.NamespaceLemmas.{SaysNamespace-no_fault}
use Rattle.virtiofs_map.proofs.idmap.laws.no_fault.Goals as goal

pub returns : goal.returns
returns c = SaysNamespace-no_fault
