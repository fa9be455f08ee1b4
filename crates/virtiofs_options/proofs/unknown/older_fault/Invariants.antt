-- what is wrong with the first wrong part of the texts so far
use Rattle.std.proofs.Common.{map}
use Rattle.virtiofs_options.specs.Unknown.{first_bad, HasTextFault}
use Rattle.virtiofs_options.proofs.unknown.older_fault.Given as goal

abbrev pub invariant-loop-text : goal.invariant-loop-text
invariant-loop-text l =
    HasTextFault l.fn.options (first_bad l.fn.options (map (λ it. it.now) l.yielded)) l.first
