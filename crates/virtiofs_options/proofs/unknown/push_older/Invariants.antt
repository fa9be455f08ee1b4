-- the texts so far were added, where they are not known
use Rattle.std.proofs.Common.{◌≡◌, ◌++◌, map}
use Rattle.virtiofs_options.specs.Unknown.{told, unknown_words}
use Rattle.virtiofs_options.proofs.unknown.push_older.Given as goal

abbrev pub invariant-loop-word : goal.invariant-loop-word
invariant-loop-word l =
    map told l.unknown.items
    ≡ map told l.initial.unknown.items ++ unknown_words l.fn.options l.fn.guest (map (λ it. it.now) l.yielded)
