use Rattle.std.proofs.Common.{◌∙◌, ◌<◌, ◌∷◌, ◌++◌, [], ap, length, map, rules, sym, take, true, false}
use Rattle.std.proofs.lemmas.List.{append-nil, map-append}
use Rattle.virtiofs_mapaudit.specs.Running.{firsts, group, has_beside, items}
use Rattle.virtiofs_mapaudit.proofs.RunningLemmas.{groups_more}
use Rattle.virtiofs_mapaudit.proofs.running.groups.Goals.{then-not-has_beside+in_ok-group+in_ok-push, else-not-has_beside}
use Rattle.virtiofs_mapaudit.proofs.running.groups.Goals as goal

pub loop-place-preserved : goal.loop-place-preserved
loop-place-preserved c =
    let inside : c.loop-place.place < length c.in_ok-serving.serving.items = search rules in
    let seen = c.has_beside.ensures ∙ ap (λ those. has_beside (take c.loop-place.place those) c.index-it.result.now) c.deref.ensures.value in
    elim c.if-not-has_beside.branch [
      | then-not-has_beside+in_ok-group+in_ok-push w ↦ rw (w.groups-is, w.in_ok-push.ensures.items, map-append items c.loop-place.groups.items _)
          (ap (λ those. those ++ items w.in_ok-group.field-0 ∷ []) c.loop-place.invariant
          ∙ ap (λ one. map (group c.in_ok-serving.serving.items) (firsts [] (take c.loop-place.place c.in_ok-serving.serving.items)) ++ one ∷ [])
          (w.in_ok-group.ensures ∙ ap (λ those. group those c.index-it.result.now) w.as_slice.ensures.value)
          ∙ sym (groups_more c.in_ok-serving.serving.items c.loop-place.place c.index-it.result.now false inside c.index-it.ensures
          (sym w.if-not-has_beside.true ∙ seen)))
      | else-not-has_beside w ↦ rw w.groups-is (c.loop-place.invariant ∙ sym (append-nil _)
          ∙ sym (groups_more c.in_ok-serving.serving.items c.loop-place.place c.index-it.result.now true inside c.index-it.ensures
          (sym w.if-not-has_beside.false ∙ seen)))
    ]
