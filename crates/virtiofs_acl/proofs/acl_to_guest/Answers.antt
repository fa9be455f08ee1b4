use Rattle.std.proofs.Common.{rules}
use Rattle.virtiofs_acl.proofs.acl_to_guest.Goals as goal

pub returns : goal.returns
returns g c = let change = c.translate_acl.ensures.change _ _ c.lent-users.ensures c.lent-groups.ensures in search rules
