use Rattle.std.proofs.Common.{rules}
use Rattle.std.proofs.lemmas.List.Sorted.{IsNonDecreasingBy-from_sort_by_key}
use Rattle.virtiofs_map.specs.Mapping.{first_of}
use Rattle.virtiofs_map.proofs.SortedLemmas.{sorted_whole}
use Rattle.virtiofs_map.proofs.soft_idmap.sorted.sorted_entries.Goals as goal

pub returns : goal.returns
returns g c = record {
  whole = sorted_whole c.args.specs.now c.args.direction _ _ c.in_ok-sorted.ensures c.sort_unstable_by_key.ensures.permutation;
  rising = IsNonDecreasingBy-from_sort_by_key first_of _ c.sort_unstable_by_key.ensures.sorted (λ a r q k. search rules);
}
