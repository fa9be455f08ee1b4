use Rattle.std.proofs.Common.{◌≡◌, ◌++◌, ◌≤◌, List, drop}
use Rattle.std.specs.List.{filter_map}
use Rattle.virtiofs_map.specs.AuditParts.{part_of}
use Rattle.virtiofs_map.specs.NamesImage.{IsMapOf, pattern_bytes}
use Rattle.virtiofs_map.specs.Rule.{MappingRule}
use Rattle.virtiofs_map.proofs.audit.gathered.gathered.Given as goal

-- the parts so far, and those of the rules that are left, whose patterns have no more bytes than are left
abbrev pub invariant-loop-place : goal.invariant-loop-place
invariant-loop-place g l = (rules : List MappingRule) → IsMapOf rules l.map
    → (l.names.items ++ filter_map (part_of l.part) (drop l.place rules) ≡ filter_map (part_of l.part) rules)
    × (pattern_bytes (drop l.place rules) ≤ l.left)
