use Rattle.std.proofs.Common.{rules}
use Rattle.virtiofs_map_c.proofs.ValuesLemmas.{told_unchanged, told_no_fault, capability_fails_otherwise}
use Rattle.virtiofs_map_c.proofs.ValuesLemmas.{tells_root_code}
use Rattle.virtiofs_map_c.specs.Values.{IsCapabilityTold}
use Rattle.virtiofs_map_c.proofs.values.write_capability.Goals as goal

pub returns-clause-unchanged : goal.returns-clause-unchanged
returns-clause-unchanged c = search (rules, told_unchanged)

pub returns-clause-no_fault : goal.returns-clause-no_fault
returns-clause-no_fault c = told_no_fault IsCapabilityTold _ _ _ capability_fails_otherwise c.tell_capability.ensures

pub returns-clause-code : goal.returns-clause-code
returns-clause-code c = tells_root_code _ _ _ c.tell_capability.ensures c.write_revision_3.ensures.has_field
