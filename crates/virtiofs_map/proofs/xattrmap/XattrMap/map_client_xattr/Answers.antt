use Rattle.virtiofs_map.specs.declared.xattrmap.scopes.Side.TheVariants.{Client}
use Rattle.virtiofs_map.proofs.DecisionLemmas.{prepend_no_zero}
use Rattle.virtiofs_map.proofs.xattrmap.XattrMap.map_client_xattr.Goals as goal

pub invariant_of-with_prepend : goal.invariant_of-with_prepend
invariant_of-with_prepend g c = record {
  no_zero =
      prepend_no_zero Client c.args.self.now c.args.name.bytes.now c.in-Prefix.bytes.now
      (rw c.in-Prefix.is at c.decide.ensures.says c.args.self.now c.as_ref.ensures) c.as_ref.ensures.no_zero;
}
