use Rattle.std.proofs.Common.{leb, ltb, rules}
use Rattle.std.proofs.lemmas.List.Sorted.{IsPartitionPoint-from_clause, IsPartitionedBy-leb, IsPartitionedBy-ltb}
use Rattle.virtiofs_id_audit.specs.declared.spans.Span.{Span}
use Rattle.virtiofs_id_audit.proofs.ApartLemmas.{AreRuns-firsts, AreRuns-lasts}
use Rattle.virtiofs_id_audit.proofs.cuts.MeetingLemmas.{AreRuns-drop, All-met, Hold-met}
use Rattle.virtiofs_id_audit.proofs.cuts.meeting.Goals as goal

pub returns : goal.returns
returns c =
    let spans = c.args.spans.now in
    let whole = c.args.whole in
    let rest = AreRuns-drop c.partition_point-from.result spans c.requires.runs in
    let ends =
    IsPartitionPoint-from_clause (λ (span : Span). ltb span.last whole.first) spans _
    c.partition_point-from.ensures.partitioned
    (IsPartitionedBy-ltb (λ (span : Span). span.last) spans whole.first (AreRuns-lasts spans c.requires.runs))
    (λ a r f' k. search rules) in
    let begins =
    IsPartitionPoint-from_clause (λ (span : Span). leb span.first whole.last) c.split_at.result.1.now _
    c.partition_point-count.ensures.partitioned
    (IsPartitionedBy-leb (λ (span : Span). span.first) c.split_at.result.1.now whole.last
    (rw c.split_at.ensures.back (AreRuns-firsts _ rest))) (λ a r f' k. search rules) in
    rw (c.split_at-2.ensures.front, c.split_at.ensures.back) (record {
      runs = search rules;
      meet = All-met spans whole _ _ ends (rw c.split_at.ensures.back at begins);
      hold = Hold-met spans whole _ _ ends (rw c.split_at.ensures.back at begins);
    })
