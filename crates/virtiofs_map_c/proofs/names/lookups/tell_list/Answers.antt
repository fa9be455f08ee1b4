use Rattle.std.proofs.Common.{refl, rules}
use Rattle.virtiofs_map_c.proofs.NamesLemmas.{list_told}
use Rattle.virtiofs_map_c.proofs.names.lookups.tell_list.Goals as goal

pub returns-in-NoMap-clause-told : goal.returns-in-NoMap-clause-told
returns-in-NoMap-clause-told c = λ answer old new written. absurd (rw c.in-NoMap.is at written)

pub returns-in-Undecided-clause-told : goal.returns-in-Undecided-clause-told
returns-in-Undecided-clause-told c = λ answer old new written.
    rw (c.nothing-in-Undecided.ensures.told, c.nothing-in-Undecided.ensures.len, rw c.in-Undecided.is at written) (refl, refl)

pub returns-in-Written-clause-told : goal.returns-in-Written-clause-told
returns-in-Written-clause-told c = λ answer old new written. list_told answer old _ new (rw c.in-Written.is at written)

pub returns-in-NoRoom-clause-told : goal.returns-in-NoRoom-clause-told
returns-in-NoRoom-clause-told c = λ answer old new written.
    let (list, is, same, short) = rw c.in-NoRoom.is at written in search rules
