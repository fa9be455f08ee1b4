use Rattle.std.proofs.Common.{arith}
use Rattle.virtiofs_map.proofs.DecisionLemmas.{prefix_within}
use Rattle.virtiofs_map.proofs.xattrmap.listed.seen_as.Goals as goal

pub returns-else-prepend-name-clause-seen : goal.returns-else-prepend-name-clause-seen
returns-else-prepend-name-clause-seen c = λ rules says.
    (let within = prefix_within rules c.args.name.now c.in-Prefix.prepend.now (rw c.in-Prefix.is at says) in
    absurd (omega (arith, within, c.if-prepend-name.false)))
