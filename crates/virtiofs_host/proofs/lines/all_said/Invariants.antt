-- the lines say the values so far, and then those of the lines that are left
use Rattle.virtiofs_host.specs.CutParts.{parts_left, bytes_left}
use Rattle.virtiofs_host.specs.Lines.{lines}
use Rattle.virtiofs_host.proofs.LinesLemmas.{SaidSoFar}
use Rattle.virtiofs_host.proofs.lines.all_said.Given as goal

abbrev pub invariant-loop-rest : goal.invariant-loop-rest
invariant-loop-rest g l =
    SaidSoFar (g.R.LineReader.says l.reader) (lines l.fn.text) (parts_left 10 l.rest) l.all.items

abbrev pub decreases-loop-rest : goal.decreases-loop-rest
decreases-loop-rest g l = bytes_left l.rest
