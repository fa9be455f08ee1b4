use Rattle.std.proofs.Common.{length, chars}
use denote.Text.{Utf8}
use denote.Shadow.{shadow}
use Rattle.virtiofs_map.proofs.ReadSoFarLemmas.{ReadSoFar}
use Rattle.virtiofs_map.proofs.xattrmap.reader.read_rules.Given as goal

abbrev pub invariant-loop-number : goal.invariant-loop-number
invariant-loop-number g l = shadow (Utf8 l.rest) × ReadSoFar (chars l.text) (chars l.rest) l.rules.list l.number

abbrev pub decreases-loop-number : goal.decreases-loop-number
decreases-loop-number g l = length (chars l.rest)
