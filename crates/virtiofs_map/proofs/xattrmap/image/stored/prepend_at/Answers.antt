use Rattle.std.proofs.Common.{◌≤◌, Some, ap, length, refl, arith}
use Rattle.virtiofs_map.proofs.xattrmap.image.stored.PrependLemmas.{prepend_there, row_there}
use Rattle.virtiofs_map.proofs.xattrmap.image.stored.prepend_at.Goals as goal
use Rattle.virtiofs_map.proofs.xattrmap.image.stored.prepend_at.Goals.{else-prepend-end-via-then-prepend-end+else-end-image}
use Rattle.virtiofs_map.proofs.xattrmap.image.stored.prepend_at.Goals.{else-prepend-end-via-else-prepend-end}

pub returns-then-from-image : goal.returns-then-from-image
returns-then-from-image c = λ rules rule is here.
    (let long : 48 ≤ length c.args.image.now = omega (arith, is.begun) in
    let row =
    row_there rules c.args.image.now c.args.place rule is here c.part_start.result _ (c.part_start.ensures long) refl in
    absurd (omega (arith, row.within, c.if-from-image.true)))

pub returns-then-end-image : goal.returns-then-end-image
returns-then-end-image c = λ rules rule is here.
    (let long : 48 ≤ length c.args.image.now = omega (arith, is.begun) in
    let row =
    row_there rules c.args.image.now c.args.place rule is here c.part_start.result _ (c.part_start.ensures long) refl in
    ap Some (prepend_there rules c.args.image.now c.args.place rule is here _ c.part_start-bytes.result
    c.le_u64_at.result c.le_u64_at-2.result _ _ _ row refl (c.part_start-bytes.ensures long) c.le_u64_at.ensures
    c.le_u64_at-2.ensures refl refl).is)

pub returns-else-prepend-end : goal.returns-else-prepend-end
returns-else-prepend-end c = λ rules rule is here.
    (let long : 48 ≤ length c.args.image.now = omega (arith, is.begun) in
    let row =
    row_there rules c.args.image.now c.args.place rule is here c.part_start.result _ (c.part_start.ensures long) refl in
    let prepend =
    prepend_there rules c.args.image.now c.args.place rule is here _ c.part_start-bytes.result c.le_u64_at.result
    c.le_u64_at-2.result _ _ _ row refl (c.part_start-bytes.ensures long) c.le_u64_at.ensures c.le_u64_at-2.ensures
    refl refl in
    elim c.else-prepend-end.branch [
      | else-prepend-end-via-then-prepend-end+else-end-image w ↦ absurd
          (omega (arith, prepend.within, w.if-end-image.false))
      | else-prepend-end-via-else-prepend-end w ↦ absurd (omega (arith, prepend.rising, w.if-prepend-end.false))
    ])
