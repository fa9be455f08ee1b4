use Rattle.std.proofs.Common.{rules}
use Rattle.virtiofs_map_c.proofs.ValuesLemmas.{told_unchanged, told_no_fault, capability_fails_otherwise}
use Rattle.virtiofs_map_c.proofs.ValuesLemmas.{tells_capability_code, tells_capability}
use Rattle.virtiofs_map_c.specs.Values.{IsCapabilityTold}
use Rattle.virtiofs_map_c.proofs.values.change_capability.Goals as goal

pub returns-clause-answer : goal.returns-clause-answer
returns-clause-answer c = λ specs users.
    tells_capability specs _ _ _ _ _ _ c.tell_capability.ensures
    (c.translate_capability.ensures.change specs (rw c.in-Some.ensures.words (c.all_of.ensures.map specs users)))

pub returns-clause-unchanged : goal.returns-clause-unchanged
returns-clause-unchanged c = search (rules, told_unchanged)

pub returns-clause-no_fault : goal.returns-clause-no_fault
returns-clause-no_fault c = told_no_fault IsCapabilityTold _ _ _ capability_fails_otherwise c.tell_capability.ensures

pub returns-clause-code : goal.returns-clause-code
returns-clause-code c = tells_capability_code _ _ _ c.tell_capability.ensures
