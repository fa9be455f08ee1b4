use Rattle.std.proofs.Common.{arith}
use Rattle.virtiofs_findings.proofs.ids.namespace.differ.Goals as goal

pub returns-in-Some : goal.returns-in-Some
returns-in-Some g c = grind arith
