use Rattle.virtiofs_map.proofs.SpecificationLawLemmas.{Says-one}
use Rattle.virtiofs_map.proofs.cmdline.laws.one_value.Goals as goal

pub returns : goal.returns
returns c = Says-one
