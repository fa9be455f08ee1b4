use Rattle.std.proofs.Common.{◌≤◌, ◌<◌, length, ltb, sym, rules, arith}
use Rattle.std.proofs.lemmas.Bool.Decides.{nat_tests}
use Rattle.std.proofs.lemmas.List.Sorted.{IsPartitionPoint-from_clause, IsPartitionedBy-ltb}
use Rattle.virtiofs_id_audit.specs.declared.spans.Span.{Span}
use Rattle.virtiofs_id_audit.proofs.ApartLemmas.{AreRuns-lasts}
use Rattle.virtiofs_id_audit.proofs.SpanLemmas.{SplitsAt, none_after, none_before, ends_after}
use Rattle.virtiofs_id_audit.proofs.spans.run_in.Goals as goal

pub returns-in_default : goal.returns-in_default
returns-in_default c =
    let splits : SplitsAt c.args.spans.now c.args.id c.partition_point-at.result =
    IsPartitionPoint-from_clause (λ (span : Span). ltb span.last c.args.id) _ _
    c.partition_point-at.ensures.partitioned
    (IsPartitionedBy-ltb (λ (span : Span). span.last) _ c.args.id (AreRuns-lasts _ c.requires)) (λ a r f' k. search rules) in
    let lookup = c.in_default.ensures.lookup.0 in
    let beyond : length c.args.spans.now ≤ c.partition_point-at.result = grind (arith, nat_tests) in
    record {
      from = omega arith;
      to = omega arith;
      each = λ n from to. (λ all. absurd (cc), λ held. absurd (none_after _ _ _ c.requires splits n beyond from held));
    }

pub returns-then-id-span : goal.returns-then-id-span
returns-then-id-span c =
    let splits : SplitsAt c.args.spans.now c.args.id c.partition_point-at.result =
    IsPartitionPoint-from_clause (λ (span : Span). ltb span.last c.args.id) _ _
    c.partition_point-at.ensures.partitioned
    (IsPartitionedBy-ltb (λ (span : Span). span.last) _ c.args.id (AreRuns-lasts _ c.requires)) (λ a r f' k. search rules) in
    record {
      from = omega arith;
      to = omega arith;
      each = λ n from to. (
        λ all. absurd (cc),
        λ held. absurd (none_before _ _ _ c.requires splits n _ (sym c.in-Some.ensures.lookup.1) from (omega arith) held),
      );
    }

pub returns : goal.returns
returns c =
    let splits : SplitsAt c.args.spans.now c.args.id c.partition_point-at.result =
    IsPartitionPoint-from_clause (λ (span : Span). ltb span.last c.args.id) _ _
    c.partition_point-at.ensures.partitioned
    (IsPartitionedBy-ltb (λ (span : Span). span.last) _ c.args.id (AreRuns-lasts _ c.requires)) (λ a r f' k. search rules) in
    let lookup = c.in-Some.ensures.lookup.0 in
    let inside : c.partition_point-at.result < length c.args.spans.now = grind (arith, nat_tests) in
    let here = sym c.in-Some.ensures.lookup.1 in
    record {
      from = ends_after _ _ _ c.requires splits _ inside here;
      to = omega arith;
      each = λ n from to. (λ all. (_, (_, inside, here), (omega arith, to)), λ held. search rules);
    }
