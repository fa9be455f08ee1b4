-- the id is not among the ids so far
use Rattle.std.proofs.Common.{ℕ, ◌<◌, get_or}
use Rattle.virtiofs_map.specs.Mapping.{InRange}
use Rattle.virtiofs_host.specs.declared.subordinate.SubIds.{SubIds}
use Rattle.virtiofs_host.proofs.allowed.end_of.Given as goal

abbrev pub invariant-loop-ids : goal.invariant-loop-ids
invariant-loop-ids l =
    (k : ℕ) (d : SubIds) → k < l.ids-index → ¬ InRange (get_or l.given k d).first (get_or l.given k d).count l.id
