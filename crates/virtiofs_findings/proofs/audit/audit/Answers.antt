use Rattle.std.proofs.Common.{arith}
use Rattle.virtiofs_findings.proofs.audit.audit.Goals as goal

pub returns : goal.returns
returns g c = grind (arith, c.new-found.ensures.items, c.in_ok-push_guests.ensures, c.in_ok-push_each_two.ensures)
