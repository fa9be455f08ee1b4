use Rattle.std.proofs.Common.{[]}
use Rattle.std.proofs.lemmas.Result.{err_from_is_err_and}
use Rattle.virtiofs_map.specs.declared.soft_idmap.entry.Direction.TheVariants.{GuestToHost}
use Rattle.virtiofs_acl.proofs.AclCapabilityLemmas.{HasRootFault-stays}
use Rattle.virtiofs_acl.proofs.capabilities.new_root.Goals as goal

pub returns-in_err-root-clause-refused : goal.returns-in_err-root-clause-refused
returns-in_err-root-clause-refused c = λ specs image.
    let p = err_from_is_err_and c.from_residual.result c.from_residual.ensures.1 in
    rw (p.1, p.2) (c.in_err-root.ensures.refused specs c.args.direction)

pub returns-in_err-root-clause-has_field : goal.returns-in_err-root-clause-has_field
returns-in_err-root-clause-has_field c =
    let p = err_from_is_err_and c.from_residual.result c.from_residual.ensures.1 in
    rw (p.1, p.2) (HasRootFault-stays [] GuestToHost _ _ (c.in_err-root.ensures.refused [] GuestToHost))

pub returns-clause-root : goal.returns-clause-root
returns-clause-root c = λ specs image. rw c.in_ok-root.ensures.root at (c.in-Some.ensures specs image)
