use Rattle.std.proofs.Common.{◌≡◌, sym, ◌∙◌, arith}
use Rattle.std.proofs.lemmas.Bool.{false≢true}
use Rattle.virtiofs_acl.proofs.AclMergeLemmas.{Accepted-for}
use Rattle.virtiofs_acl.proofs.AclWriteLemmas.{IsWritten-tag, IsWritten-id, IsWritten-pass, IsWritten-more}
use Rattle.virtiofs_acl.proofs.lists.write_entries.Goals.{then-has_id+in-Some, then-has_id+in_default, else-has_id}
use Rattle.virtiofs_map.proofs.ForCallers.{Becomes-forbidden}
use Rattle.virtiofs_acl.proofs.lists.write_entries.Goals as goal

pub loop-k-preserved : goal.loop-k-preserved
loop-k-preserved c = λ users groups of_users of_groups sound.
    let k = c.loop-k.k in
    let written = c.loop-k.invariant users groups of_users of_groups (λ j below. sound j (omega arith)) in
    let tag = c.entry_at-entry.ensures.tag ∙ IsWritten-tag users groups _ _ _ k written in
    let id = c.entry_at-entry.ensures.id ∙ IsWritten-id users groups _ _ _ k written in
    elim c.if-has_id.branch [
      | then-has_id+in-Some w ↦
          rw w.value-is
          (IsWritten-more users groups _ _ _ _ k _ written (rw tag at (c.has_id.ensures.0 w.if-has_id.true))
          w.write_four.auto.value w.write_four.ensures.number w.write_four.ensures.rest
          (rw (tag, id) at (w.in-Some.ensures users groups of_users of_groups)))
      | then-has_id+in_default w ↦ absurd
          (Becomes-forbidden _ _ _ _ (Accepted-for users groups _ of_users.accepted of_groups.accepted)
          ((sound k (omega arith)).goes (rw tag at (c.has_id.ensures.0 w.if-has_id.true))).1
          (rw (tag, id) at (w.in_default.ensures users groups of_users of_groups)))
      | else-has_id w ↦
          rw w.value-is
          (IsWritten-pass users groups _ _ _ k written
          (λ has_id. false≢true (sym w.if-has_id.false ∙ c.has_id.ensures.1 (rw tag has_id))))
    ]

pub returns : goal.returns
returns c = λ users groups of_users of_groups sound.
    let whole : c.loop-k.k ≡ c.args.count = omega arith in
    rw whole at (c.loop-k.invariant users groups of_users of_groups (λ k below. sound k (omega arith)))
