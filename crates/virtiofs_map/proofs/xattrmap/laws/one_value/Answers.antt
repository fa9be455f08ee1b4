use Rattle.virtiofs_map.proofs.RuleTextLemmas.{one_value}
use Rattle.virtiofs_map.proofs.xattrmap.laws.one_value.Goals as goal

pub returns : goal.returns
returns c = one_value
