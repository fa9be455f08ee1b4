use Rattle.std.proofs.Common.{rules}
use Rattle.virtiofs_acl.proofs.AclMergeLemmas.{Places-permutation, AreInOrder-sorted, none_found, first_found, in_value}
use Rattle.virtiofs_acl.proofs.merges.first_merged.Goals as goal

pub least_clash-requires-clause-in_value : goal.least_clash-requires-clause-in_value
least_clash-requires-clause-in_value c = search (rules, in_value)

pub least_clash-requires-clause-in_order : goal.least_clash-requires-clause-in_order
least_clash-requires-clause-in_order c = AreInOrder-sorted c.sort_unstable.new.self c.sort_unstable.ensures.sorted

pub returns-clause-none : goal.returns-clause-none
returns-clause-none c = λ users groups of_users of_groups sound.
    none_found users groups _ _ _ _ _ of_users.accepted of_groups.accepted
    (AreInOrder-sorted c.sort_unstable.new.self c.sort_unstable.ensures.sorted)
    (Places-permutation users groups _ _ _ _ _ c.sort_unstable.ensures.permutation
    (c.place-used.ensures.placed users groups of_users of_groups sound)) c.least_clash.ensures.least

pub returns-clause-first : goal.returns-clause-first
returns-clause-first c = λ users groups of_users of_groups sound.
    first_found users groups _ _ _ _ _ of_users.accepted of_groups.accepted
    (AreInOrder-sorted c.sort_unstable.new.self c.sort_unstable.ensures.sorted)
    (Places-permutation users groups _ _ _ _ _ c.sort_unstable.ensures.permutation
    (c.place-used.ensures.placed users groups of_users of_groups sound)) c.least_clash.ensures.least
    c.least_clash.ensures.found
