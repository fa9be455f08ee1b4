use Rattle.std.proofs.Common.{below_more, arith}
use Rattle.virtiofs_acl.proofs.entries.test_entries.Goals as goal

pub loop-k-preserved : goal.loop-k-preserved
loop-k-preserved c = λ users groups of_users of_groups.
    below_more _ _ (c.loop-k.invariant users groups of_users of_groups)
    (c.in_default.ensures.sound users groups of_users of_groups)

pub returns-in-Some-clause-refused : goal.returns-in-Some-clause-refused
returns-in-Some-clause-refused c = λ users groups of_users of_groups. (
  c.loop-k-test.true,
  c.loop-k.invariant users groups of_users of_groups,
  c.in-Some.ensures.wrong users groups of_users of_groups,
)

pub returns-clause-sound : goal.returns-clause-sound
returns-clause-sound c =
    λ users groups of_users of_groups k below. c.loop-k.invariant users groups of_users of_groups k (omega arith)
