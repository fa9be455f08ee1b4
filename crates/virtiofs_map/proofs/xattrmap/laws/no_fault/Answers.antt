use Rattle.virtiofs_map.proofs.RuleTextLemmas.{no_fault}
use Rattle.virtiofs_map.proofs.xattrmap.laws.no_fault.Goals as goal

pub returns : goal.returns
returns c = no_fault
