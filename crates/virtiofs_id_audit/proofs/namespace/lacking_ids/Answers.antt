use Rattle.std.proofs.Common.{inl, inr, refl}
use Rattle.virtiofs_id_audit.proofs.NamespaceLemmas.{lacks_both}
use Rattle.virtiofs_id_audit.proofs.OutsideLemmas.{none_here, some_here}
use Rattle.virtiofs_id_audit.proofs.namespace.lacking_ids.Goals.{then-is_empty, else-is_empty+in_ok-ids}
use Rattle.virtiofs_id_audit.proofs.namespace.lacking_ids.Goals as goal

pub returns : goal.returns
returns g c =
    rw c.in_ok-push.ensures.items
    (elim c.if-is_empty.branch [
      | then-is_empty w ↦ rw w.ids-is
          (lacks_both _ _ _ refl refl
          (inl (none_here _ _ c.is_empty.ensures w.if-is_empty.true, w.new-ids.ensures.items)))
      | else-is_empty+in_ok-ids w ↦ rw w.ids-is
          (lacks_both _ _ _ refl refl
          (inr (some_here _ _ c.is_empty.ensures w.if-is_empty.false, w.in_ok-ids.ensures)))
    ])
