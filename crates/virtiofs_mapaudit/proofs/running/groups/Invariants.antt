-- the groups of the processes so far
use Rattle.std.proofs.Common.{◌≡◌, [], map, take}
use Rattle.virtiofs_mapaudit.specs.Running.{firsts, group, items}
use Rattle.virtiofs_mapaudit.proofs.running.groups.Given as goal

abbrev pub invariant-loop-place : goal.invariant-loop-place
invariant-loop-place l =
    map items l.groups.items ≡ map (group l.serving.items) (firsts [] (take l.place l.serving.items))
