use Rattle.std.proofs.Common.{refl, inr}
use Rattle.virtiofs_acl.proofs.AclMergeLemmas.{Accepted-for}
use Rattle.virtiofs_map.proofs.ForCallers.{Becomes-one}
use Rattle.virtiofs_acl.proofs.entries.fault_at.Goals as goal

pub returns-clause-sound : goal.returns-clause-sound
returns-clause-sound c = λ users groups of_users of_groups.
    let entry = c.entry_at-entry.ensures in
    let becomes = rw (entry.tag, entry.id) at (c.in-Some.ensures users groups of_users of_groups) in
    record {
      known = rw entry.tag at (c.if-not-is_tag.ensures.0 refl);
      permitted = rw entry.permissions at c.if-entry-gt7.false;
      is_id = λ _. rw entry.id at c.if-entry.false;
      goes = λ _. (c.in-Some.id, becomes);
      to_id = λ _ none. c.if-id.false
          (Becomes-one _ _ _ c.in-Some.id 4294967295 (Accepted-for users groups _ of_users.accepted of_groups.accepted)
          becomes none);
    }

pub returns-in_default-clause-sound : goal.returns-in_default-clause-sound
returns-in_default-clause-sound c = λ _ _ _ _. tt

pub returns-then-id-clause-sound : goal.returns-then-id-clause-sound
returns-then-id-clause-sound c = λ _ _ _ _. tt

pub returns-in_default-clause-wrong : goal.returns-in_default-clause-wrong
returns-in_default-clause-wrong c = λ users groups of_users of_groups.
    let entry = c.entry_at-entry.ensures in (
      rw entry.tag at (c.if-not-has_id.ensures.0 refl),
      (rw entry.permissions at c.if-entry-gt7.false),
      (rw entry.id at c.if-entry.false),
      (rw (entry.tag, entry.id) at (c.in_default.ensures users groups of_users of_groups)),
    )

pub returns-then-id-clause-wrong : goal.returns-then-id-clause-wrong
returns-then-id-clause-wrong c = λ users groups of_users of_groups.
    let entry = c.entry_at-entry.ensures in (
      rw entry.tag at (c.if-not-has_id.ensures.0 refl),
      (rw entry.permissions at c.if-entry-gt7.false),
      inr (rw (entry.tag, entry.id, c.if-id.true) at (c.in-Some.ensures users groups of_users of_groups)),
    )
