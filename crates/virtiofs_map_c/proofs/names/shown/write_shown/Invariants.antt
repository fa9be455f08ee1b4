use Rattle.std.proofs.Common.{◌≡◌, ◌+◌, ◌<◌, ◌≤◌, List, length}
use Rattle.virtiofs_map.specs.NamesImage.{IsImage}
use Rattle.virtiofs_map.specs.Rule.{MappingRule}
use Rattle.virtiofs_map_c.proofs.ShownLemmas.{IsSoFar}
use Rattle.virtiofs_map_c.proofs.names.shown.write_shown.Given as goal

-- what was written, with the names that are left, comes to the whole list
abbrev pub invariant-names : goal.invariant-names
invariant-names l = record {
  listed : (rules : List MappingRule) → IsImage rules l.image → IsSoFar rules l.list l.rest l.end l.initial.out l.out;
  same : length l.out ≡ length l.initial.out;
  short : l.end + length l.rest ≤ length l.list + 1;
  shorter : 0 < length l.rest → l.end + length l.rest ≤ length l.list;
}

abbrev pub decreases-names : goal.decreases-names
decreases-names l = length l.rest
