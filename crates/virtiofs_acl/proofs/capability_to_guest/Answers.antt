use Rattle.std.proofs.Common.{rules}
use Rattle.virtiofs_acl.proofs.capability_to_guest.Goals as goal

pub returns : goal.returns
returns g c = let change = c.translate_capability.ensures.change _ c.lent.ensures in search rules
