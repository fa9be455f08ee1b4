-- the text is the words so far, and then the rest
use Rattle.std.proofs.Common.{length, map}
use Rattle.virtiofs_host.specs.CommandLine.{BeginsWord}
use Rattle.virtiofs_host.specs.Sequence.{ThenRest}
use Rattle.virtiofs_host.proofs.command_line.read_command_line.Given as goal

abbrev pub invariant-loop-rest : goal.invariant-loop-rest
invariant-loop-rest g l = ThenRest BeginsWord l.text (map (λ word. word.now) l.words.items) l.rest

abbrev pub decreases-loop-rest : goal.decreases-loop-rest
decreases-loop-rest g l = length l.rest
