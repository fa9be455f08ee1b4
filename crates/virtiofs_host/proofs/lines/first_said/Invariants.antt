-- no line so far says a value
use Rattle.virtiofs_host.specs.CutParts.{parts_left, bytes_left}
use Rattle.virtiofs_host.specs.Lines.{lines}
use Rattle.virtiofs_host.proofs.LinesLemmas.{NoneSoFar}
use Rattle.virtiofs_host.proofs.lines.first_said.Given as goal

abbrev pub invariant-loop-rest : goal.invariant-loop-rest
invariant-loop-rest g l = NoneSoFar (g.R.LineReader.says l.reader) (lines l.fn.text) (parts_left 10 l.rest)

abbrev pub decreases-loop-rest : goal.decreases-loop-rest
decreases-loop-rest g l = bytes_left l.rest
