use Rattle.std.proofs.lemmas.Result.{err_from_is_err_and}
use Rattle.virtiofs_acl.proofs.AclChangeLemmas.{WritesRevision3-done, WritesRevision3-refused}
use Rattle.virtiofs_acl.proofs.AclCapabilityLemmas.{to_id}
use Rattle.virtiofs_acl.proofs.capabilities.write_revision_3.Goals as goal

pub returns-in_err-root-clause-change : goal.returns-in_err-root-clause-change
returns-in_err-root-clause-change c = λ specs image.
    let p = err_from_is_err_and c.from_residual.result c.from_residual.ensures.1 in
    rw (p.1, p.2)
    (WritesRevision3-refused specs _ _ _ _ image.accepted
    (c.in_err-root.ensures.refused specs image))

pub returns-clause-change : goal.returns-clause-change
returns-clause-change c = λ specs image.
    let root = c.in_ok-root.ensures.root specs image in
    WritesRevision3-done specs _ _ _ image.accepted (rw c.write_with_root.ensures.root root)
    c.write_with_root.ensures.same
    (record {
      capability = c.in_ok-root.ensures.capability;
      root = c.in_ok-root.root;
      becomes = root;
      to_id = to_id specs _ _ _ image.accepted root c.in_ok-root.ensures.id;
    })
