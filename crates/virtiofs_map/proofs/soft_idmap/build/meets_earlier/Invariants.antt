use Rattle.std.proofs.Common.{All, take}
use Rattle.virtiofs_map.specs.Build.{Meet}
use Rattle.virtiofs_map.specs.declared.cmdline.IdMap.{IdMap}
use Rattle.virtiofs_map.proofs.soft_idmap.build.meets_earlier.Given as goal

-- none of the specifications so far meets this one
abbrev pub invariant-loop-other : goal.invariant-loop-other
invariant-loop-other l =
    All {X = IdMap} (λ other. ¬ Meet l.spec other l.direction) (take l.other-index l.earlier)
