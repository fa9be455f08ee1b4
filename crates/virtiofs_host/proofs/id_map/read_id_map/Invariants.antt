-- the text is the ranges so far, and then the rest
use Rattle.std.proofs.Common.{length}
use Rattle.virtiofs_host.specs.IdMapText.{BeginsRange}
use Rattle.virtiofs_host.specs.Sequence.{ThenRest}
use Rattle.virtiofs_host.proofs.id_map.read_id_map.Given as goal

abbrev pub invariant-loop-rest : goal.invariant-loop-rest
invariant-loop-rest g l = ThenRest BeginsRange l.text l.ranges.items l.rest

abbrev pub decreases-loop-rest : goal.decreases-loop-rest
decreases-loop-rest g l = length l.rest
