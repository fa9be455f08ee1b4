use Rattle.std.proofs.Common.{◌+◌, ◌≤◌, sym, subst}
use Rattle.virtiofs_map.specs.AddedParts.{IsAddedBelow}
use Rattle.virtiofs_map.proofs.xattrmap.AddedLemmas.{none_so_far, one_more, one_longer, all_of_them}
use Rattle.virtiofs_map.proofs.xattrmap.XattrMap.most_added.Goals as goal
use Rattle.virtiofs_map.proofs.xattrmap.XattrMap.most_added.Goals.{then-added-most, else-added-most}

pub loop-place-init : goal.loop-place-init
loop-place-init g c = none_so_far c.args.self.now

pub loop-place-preserved : goal.loop-place-preserved
loop-place-preserved g c =
    let rules = c.args.self.now in
    let place = c.loop-place.place in
    let added = c.added_at-added.result in
    let before = c.loop-place.invariant in
    let here = c.added_at-added.ensures in
    elim c.if-added-most.branch [
      | then-added-most w ↦
          subst (IsAddedBelow rules (place + 1)) (sym w.most-is)
          (one_longer rules place c.loop-place.most added before here w.if-added-most.true)
      | else-added-most w ↦
          subst (IsAddedBelow rules (place + 1)) (sym w.most-is)
          (one_more rules place c.loop-place.most added before here w.if-added-most.false)
    ]

pub returns : goal.returns
returns g c =
    all_of_them c.args.self.now c.loop-place.place c.loop-place.most
    (subst (λ n. n ≤ c.loop-place.place) c.rule_count-place-end.ensures c.loop-place-test.false) c.loop-place.invariant
