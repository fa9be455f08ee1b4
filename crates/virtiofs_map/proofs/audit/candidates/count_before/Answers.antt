use Rattle.std.proofs.Common.{rules}
use Rattle.std.specs.Cmp.Lexicographic.{slice_cmp}
use Rattle.std.specs.Ordering.{nat_cmp, is_lt}
use Rattle.std.proofs.lemmas.List.Sorted.{IsPartitionPoint-from_clause}
use Rattle.virtiofs_map.proofs.audit.AuditOrderLemmas.{counts_before, before_partitioned}
use Rattle.virtiofs_map.proofs.audit.candidates.count_before.Goals as goal

pub returns : goal.returns
returns g c =
    let names = c.args.names.now in
    let bytes = c.args.bytes.now in
    counts_before names bytes c.partition_point.result c.partition_point.ensures.bound
    (IsPartitionPoint-from_clause (λ name. is_lt (slice_cmp nat_cmp name bytes)) names c.partition_point.result
    c.partition_point.ensures.partitioned (before_partitioned names bytes c.requires) (λ a r f k. search rules))
