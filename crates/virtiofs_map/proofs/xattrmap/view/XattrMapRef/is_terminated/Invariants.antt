use Rattle.std.proofs.Common.{List}
use Rattle.virtiofs_map.specs.NamesImage.{IsMapOf}
use Rattle.virtiofs_map.specs.Rule.{MappingRule}
use Rattle.virtiofs_map.proofs.xattrmap.TerminatedLemmas.{BytesDecided}
use Rattle.virtiofs_map.proofs.xattrmap.view.XattrMapRef.is_terminated.Given as goal

-- the names of one byte so far are decided
abbrev pub invariant-loop-byte : goal.invariant-loop-byte
invariant-loop-byte l = (rules : List MappingRule) → IsMapOf rules l.self → BytesDecided rules l.byte
