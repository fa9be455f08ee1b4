use Rattle.std.proofs.Common.{rules}
use Rattle.virtiofs_map_c.proofs.ValuesLemmas.{told_unchanged, told_no_fault, acl_fails_otherwise, tells_acl_code}
use Rattle.virtiofs_map_c.proofs.ValuesLemmas.{tells_acl}
use Rattle.virtiofs_map_c.specs.Values.{IsAclTold}
use Rattle.virtiofs_map_c.proofs.values.change_acl.Goals as goal

pub returns-clause-answer : goal.returns-clause-answer
returns-clause-answer c = λ specs others users groups.
    tells_acl specs others _ _ _ _ _ _ _ c.tell_acl.ensures
    (c.translate_acl-answer.ensures.change specs others (rw c.in-Some.ensures.words (c.all_of.ensures.map specs users))
    (rw c.in-Some-of.ensures.words (c.all_of-2.ensures.map others groups)))

pub returns-clause-unchanged : goal.returns-clause-unchanged
returns-clause-unchanged c = search (rules, told_unchanged)

pub returns-clause-no_fault : goal.returns-clause-no_fault
returns-clause-no_fault c = told_no_fault (IsAclTold _) _ _ _ (acl_fails_otherwise _) c.tell_acl.ensures

pub returns-clause-code : goal.returns-clause-code
returns-clause-code c = tells_acl_code _ _ _ _ c.tell_acl.ensures
