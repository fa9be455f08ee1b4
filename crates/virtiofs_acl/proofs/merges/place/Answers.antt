use Rattle.std.proofs.Common.{◌≡◌, ◌<◌, length, refl, sym, ◌∙◌, arith}
use Rattle.std.proofs.lemmas.Bool.{false≢true}
use Rattle.std.proofs.lemmas.List.{take_more_set}
use Rattle.virtiofs_acl.proofs.AclMergeLemmas.{Accepted-for, Places-pass, Places-push, entries-more, entries-push}
use Rattle.virtiofs_acl.proofs.merges.place.Goals.{then-has_id+in-Some, then-has_id+in_default, else-has_id}
use Rattle.virtiofs_map.proofs.ForCallers.{Becomes-forbidden}
use Rattle.virtiofs_acl.proofs.merges.place.Goals as goal

pub loop-k-preserved : goal.loop-k-preserved
loop-k-preserved c =
    let value = c.args.value.now in
    let k = c.loop-k.k in
    let entry = c.entry_at-entry.ensures in
    elim c.if-has_id.branch [
      | then-has_id+in-Some w ↦
          let fits : c.loop-k.used < length c.loop-k.room = omega arith in
          record {
            within = omega arith;
            entries =
                rw (w.used-is, w.room-is, take_more_set c.loop-k.room c.loop-k.used _ fits)
                (entries-push k _ _ c.loop-k.invariant.entries (omega arith));
            placed = λ users groups of_users of_groups sound.
                rw (w.used-is, w.room-is, take_more_set c.loop-k.room c.loop-k.used _ fits)
                (Places-push users groups _ value k _ _
                (c.loop-k.invariant.placed users groups of_users of_groups (λ j below. sound j (omega arith))) refl
                (c.has_id.ensures.0 w.if-has_id.true) entry.tag
                (rw (entry.tag, entry.id) at (w.in-Some.ensures users groups of_users of_groups)));
          }
      | then-has_id+in_default w ↦
          record {
            within = omega arith;
            entries = rw (w.used-is, w.room-is) (entries-more k _ c.loop-k.invariant.entries);
            placed = λ users groups of_users of_groups sound.
                absurd (Becomes-forbidden _ _ _ _ (Accepted-for users groups _ of_users.accepted of_groups.accepted)
                ((sound k (omega arith)).goes (rw entry.tag at (c.has_id.ensures.0 w.if-has_id.true))).1
                (rw (entry.tag, entry.id) at (w.in_default.ensures users groups of_users of_groups)));
          }
      | else-has_id w ↦
          record {
            within = omega arith;
            entries = rw (w.used-is, w.room-is) (entries-more k _ c.loop-k.invariant.entries);
            placed = λ users groups of_users of_groups sound.
                rw (w.used-is, w.room-is)
                (Places-pass users groups _ value k _
                (c.loop-k.invariant.placed users groups of_users of_groups (λ j below. sound j (omega arith)))
                (λ has_id. false≢true (sym w.if-has_id.false ∙ c.has_id.ensures.1 (rw entry.tag has_id))));
          }
    ]

pub returns-clause-placed : goal.returns-clause-placed
returns-clause-placed c = λ users groups of_users of_groups sound.
    let whole : c.loop-k.k ≡ c.args.count = omega arith in
    rw whole at (c.loop-k.invariant.placed users groups of_users of_groups (λ k below. sound k (omega arith)))
