use Rattle.std.proofs.Common.{rules}
use Rattle.virtiofs_acl.proofs.capability_to_host_in_revision_3.Goals as goal

pub returns : goal.returns
returns g c = let change = c.write_revision_3.ensures.change _ c.lent.ensures in search rules
