use Rattle.virtiofs_map.proofs.RuleTextLemmas.{one_reading}
use Rattle.virtiofs_map.proofs.xattrmap.laws.one_reading.Goals as goal

pub returns : goal.returns
returns c = one_reading
