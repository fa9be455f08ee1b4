use Rattle.std.proofs.Common.{◌∷◌, ◌++◌, [], ap, sym, ◌∙◌, arith}
use Rattle.std.proofs.lemmas.Bool.Decides.{nat_tests}
use Rattle.std.proofs.lemmas.List.{append_assoc, nil_from_length}
use Rattle.virtiofs_id_audit.specs.IdAudit.{Hold}
use Rattle.virtiofs_map.specs.Mapping.{count_of}
use Rattle.virtiofs_id_audit.proofs.ApartLemmas.{AreRuns-firsts}
use Rattle.virtiofs_id_audit.proofs.mending.parts.RemnantLemmas.{AreCut-unmet, met_covered, kept_inside, AreCut-parts}
use Rattle.virtiofs_id_audit.proofs.mending.parts.RemnantLemmas.{AreCut-half, not_empty, parts_remnants, half_covers}
use Rattle.virtiofs_id_audit.proofs.mending.parts.RemnantLemmas.{with_half, added_remnants}
use Rattle.virtiofs_id_audit.proofs.mending.parts.push_cut.Goals as goal

pub returns-then-is_empty-2-clause-cut : goal.returns-then-is_empty-2-clause-cut
returns-then-is_empty-2-clause-cut g c =
    let some = not_empty c.is_empty.result (count_of c.in-Some.entry) c.if-is_empty.false c.is_empty.ensures in (
      c.args.spec ∷ [],
      c.in_ok-push-3.ensures.items,
      AreCut-unmet _ _ _ _ c.meeting-bad.result.now c.requires.accepted (sym c.in-Some.ensures) c.first.ensures
          (omega (arith, some, c.end.ensures.end)) c.meeting-bad.ensures.hold
          (nil_from_length c.meeting-bad.result.now (grind (arith, nat_tests))),
    )

pub push_parts-requires-clause-inside : goal.push_parts-requires-clause-inside
push_parts-requires-clause-inside g c =
    let some = not_empty c.is_empty.result (count_of c.in-Some.entry) c.if-is_empty.false c.is_empty.ensures in
    rw c.deref.ensures.value
    (kept_inside _ _ _ c.args.bad.now _ c.requires.accepted (sym c.in-Some.ensures) c.first.ensures
    (omega (arith, some, c.end.ensures.end)) c.meeting-bad.ensures.hold _ [] c.in_ok-kept.ensures.hold
    c.in_ok-kept.ensures.runs)

pub returns-in_default-host_half : goal.returns-in_default-host_half
returns-in_default-host_half g c =
    let some = not_empty _ _ c.if-is_empty.false c.is_empty.ensures in
    let (parts, out_is, are) = c.in_ok-push_parts.ensures in
    let are' = rw c.deref.ensures.value at are in
    record {
      cut = (
        parts,
        out_is,
        AreCut-parts _ _ _ _ _ c.requires.accepted (sym c.in-Some.ensures) c.first.ensures
            (omega (arith, some, c.end.ensures.end)) c.meeting-bad.ensures.hold _ _ c.in_ok-kept.ensures.hold are'
            (omega arith) c.in_default-host_half.ensures,
      );
      remnants = added_remnants _ (Hold c.args.bad.now) _ _ _ out_is
          (parts_remnants _ _ _ _ _ c.requires.accepted (sym c.in-Some.ensures) c.first.ensures
          (omega (arith, some, c.end.ensures.end)) c.meeting-bad.ensures.hold _ _ c.in_ok-kept.ensures.hold are'
          c.in_ok-kept.ensures.runs);
      clean = λ clean. absurd
          (met_covered _ _ _ _ _ c.requires.accepted (sym c.in-Some.ensures) c.first.ensures
          (omega (arith, some, c.end.ensures.end)) c.meeting-bad.ensures.hold (omega arith) (grind (arith, nat_tests))
          c.meeting-bad.ensures.runs c.meeting-bad.ensures.meet clean);
    }

pub returns : goal.returns
returns g c =
    let some = not_empty _ _ c.if-is_empty.false c.is_empty.ensures in
    let (parts, out_is, are) = c.in_ok-push_parts.ensures in
    let are' = rw c.deref.ensures.value at are in
    let half = c.in-Some-host_half.half in
    let half_is = c.in-Some-host_half.ensures in
    let added = c.in_ok-push-4.ensures.items ∙ ap (λ xs. xs ++ half ∷ []) out_is
    ∙ append_assoc c.args.out.now.items parts (half ∷ []) in
    record {
      cut = (
        parts ++ half ∷ [],
        added,
        AreCut-half _ _ _ _ _ c.requires.accepted (sym c.in-Some.ensures) c.first.ensures
            (omega (arith, some, c.end.ensures.end)) c.meeting-bad.ensures.hold _ _ c.in_ok-kept.ensures.hold are' _
            half_is,
      );
      remnants = added_remnants _ (Hold c.args.bad.now) _ _ _ added
          (with_half _ _ (Hold c.args.bad.now) _
          (parts_remnants _ _ _ _ _ c.requires.accepted (sym c.in-Some.ensures) c.first.ensures
          (omega (arith, some, c.end.ensures.end)) c.meeting-bad.ensures.hold _ _ c.in_ok-kept.ensures.hold are'
          c.in_ok-kept.ensures.runs) half_is (half_covers _ _ _ half_is (sym c.in-Some.ensures) some));
      clean = λ clean. absurd
          (met_covered _ _ _ _ _ c.requires.accepted (sym c.in-Some.ensures) c.first.ensures
          (omega (arith, some, c.end.ensures.end)) c.meeting-bad.ensures.hold (omega arith) (grind (arith, nat_tests))
          c.meeting-bad.ensures.runs c.meeting-bad.ensures.meet clean);
    }

pub without-requires-clause-firsts : goal.without-requires-clause-firsts
without-requires-clause-firsts g c = AreRuns-firsts _ c.meeting-bad.ensures.runs
