use Rattle.std.proofs.Common.{IfSome}
use Rattle.virtiofs_acl.specs.AclParts.{HasClash, MeetsClashes}
use Rattle.virtiofs_acl.proofs.merges.least_clash.Given as goal

-- the least entry that clashes, of those so far
abbrev pub invariant-loop-i : goal.invariant-loop-i
invariant-loop-i l = record {
  found : IfSome l.least (HasClash l.value l.placed);
  least : MeetsClashes l.value l.placed l.i l.least;
}
