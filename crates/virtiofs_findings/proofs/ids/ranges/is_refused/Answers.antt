use Rattle.virtiofs_findings.proofs.ListLemmas.{denied}
use Rattle.std.proofs.Common.{arith, option_map}
use Rattle.virtiofs_findings.proofs.ids.ranges.is_refused.Goals as goal

pub returns-in-Some-given : goal.returns-in-Some-given
returns-in-Some-given g c =
    grind (arith, option_map, denied, c.in-Some.is, c.in-Some-given.is, (rw c.as_slice.ensures.value at c.is_allowed.ensures))
