-- the parts so far were added
use Rattle.std.proofs.Common.{◌≡◌, ◌++◌, map}
use Rattle.virtiofs_options.specs.GuestOptions.{older_part, plain_part}
use Rattle.virtiofs_options.proofs.older.push_older.Given as goal

abbrev pub invariant-loop-text : goal.invariant-loop-text
invariant-loop-text g l =
    map plain_part l.older.items
    ≡ map plain_part l.initial.older.items ++ map (older_part l.fn.options) (map (λ it. it.now) l.yielded)
