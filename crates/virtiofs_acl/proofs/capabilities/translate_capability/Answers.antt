use Rattle.std.proofs.Common.{◌≡◌, inl, ℕ, Some, refl, sym, ◌∙◌, subst}
use Rattle.std.proofs.lemmas.Result.{err_from_is_err_and}
use Rattle.virtiofs_acl.specs.Capability.{root_of}
use Rattle.virtiofs_map.specs.Mapping.{Becomes}
use Rattle.virtiofs_acl.proofs.AclCapabilityLemmas.{with_field, without_field, root_of-none, root_of-zero}
use Rattle.virtiofs_acl.proofs.AclCapabilityLemmas.{other_revision, HasCapabilityFault-root, to_id}
use Rattle.virtiofs_acl.proofs.AclChangeLemmas.{ChangesRoot-done, ChangesRoot-refused}
use Rattle.virtiofs_acl.proofs.capabilities.translate_capability.Goals as goal

pub returns-in_err-root-clause-change : goal.returns-in_err-root-clause-change
returns-in_err-root-clause-change c = λ specs image.
    let p = err_from_is_err_and c.from_residual.result c.from_residual.ensures.1 in
    rw (p.1, p.2)
    (ChangesRoot-refused specs _ _ _ image.accepted
    (HasCapabilityFault-root specs _ _ _ (c.in_err-root.ensures.refused specs image)))

pub returns-then-value-eq24-clause-change : goal.returns-then-value-eq24-clause-change
returns-then-value-eq24-clause-change c = λ specs image.
    let root = c.in_ok-root.ensures.root specs image in
    ChangesRoot-done specs _ _ _ image.accepted c.in_ok-root.ensures.bytes (rw c.write_four.ensures.number root)
    (record {
      size = c.write_four.auto.value;
      front = λ place below. c.write_four.ensures.rest place (inl below);
    }) (record {
      has_root = record {
        capability = c.in_ok-root.ensures.capability;
        root = c.in_ok-root.root;
        becomes = root;
        to_id = to_id specs _ _ _ image.accepted root c.in_ok-root.ensures.id;
      };
      stays = λ other. absurd (other (with_field _ _ c.in_ok-root.ensures.capability.sized.sized c.if-value-eq24.true));
    })

pub returns-then-root-ne0-clause-change : goal.returns-then-root-ne0-clause-change
returns-then-root-ne0-clause-change c = λ specs image.
    let capability = c.in_ok-root.ensures.capability in
    let none : root_of c.args.value.now ≡ 0 =
    root_of-none c.args.value.now (without_field _ _ capability.sized.sized c.if-value-eq24.false) in
    let root = rw none at (c.in_ok-root.ensures.root specs image) in
    ChangesRoot-refused specs _ _ _ image.accepted (
      capability,
      other_revision _ _ capability.sized.sized c.if-value-eq24.false,
      (c.in_ok-root.root, root, c.if-root-ne0.true, c.in_ok-root.ensures.id),
    )

pub returns-else-root-ne0-clause-change : goal.returns-else-root-ne0-clause-change
returns-else-root-ne0-clause-change c = λ specs image.
    let capability = c.in_ok-root.ensures.capability in
    let none : root_of c.args.value.now ≡ 0 =
    root_of-none c.args.value.now (without_field _ _ capability.sized.sized c.if-value-eq24.false) in
    let root = c.in_ok-root.ensures.root specs image in
    ChangesRoot-done specs _ _ _ image.accepted c.in_ok-root.ensures.bytes
    (subst (λ (n : ℕ). Becomes specs c.args.direction (root_of c.args.value.now) (Some n)) (c.if-root-ne0.false ∙ sym none)
    root) (record { size = refl; front = λ place below. refl }) (record {
      has_root = record {
        capability = capability;
        root = c.in_ok-root.root;
        becomes = root;
        to_id = to_id specs _ _ _ image.accepted root c.in_ok-root.ensures.id;
      };
      stays = λ other.
          let zero : root_of c.args.value.now ≡ 0 = root_of-zero c.args.value.now capability.sized other in
          rw c.if-root-ne0.false at (rw zero at root);
    })
