use Rattle.std.proofs.Common.{◌≡◌, List, take}
use Rattle.virtiofs_map.specs.NamesImage.{IsMapOf}
use Rattle.virtiofs_map.specs.Rule.{MappingRule}
use Rattle.virtiofs_map.proofs.xattrmap.view.XattrMapRef.is_same.Given as goal

-- the rules so far are the same
abbrev pub invariant-loop-place : goal.invariant-loop-place
invariant-loop-place l = (rules others : List MappingRule) → IsMapOf rules l.self → IsMapOf others l.other
    → take l.place rules ≡ take l.place others
