use Rattle.virtiofs_map.proofs.SpecificationLawLemmas.{Says-no_fault}
use Rattle.virtiofs_map.proofs.cmdline.laws.no_fault.Goals as goal

pub returns : goal.returns
returns c = Says-no_fault
