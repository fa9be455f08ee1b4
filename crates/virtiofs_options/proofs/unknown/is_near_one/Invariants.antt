-- none of the names so far is near
use Rattle.std.proofs.Common.{◌≡◌, take, false}
use Rattle.std.specs.List.{list_any}
use Rattle.virtiofs_options.specs.Unknown.{misses}
use Rattle.virtiofs_options.proofs.unknown.is_near_one.Given as goal

abbrev pub invariant-loop-row : goal.invariant-loop-row
invariant-loop-row l = list_any (misses l.text) (take l.row-index l.known) ≡ false
