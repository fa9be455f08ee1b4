-- the words are the parts so far, and then the rest; each turn passes a word or two
use Rattle.std.proofs.Common.{length}
use Rattle.virtiofs_options.specs.Parts.{PartsThen}
use Rattle.virtiofs_options.proofs.command.read_parts.Given as goal

abbrev pub invariant-loop-rest : goal.invariant-loop-rest
invariant-loop-rest g l = PartsThen l.options l.words l.parts.items l.rest

abbrev pub decreases-loop-rest : goal.decreases-loop-rest
decreases-loop-rest g l = length l.rest
