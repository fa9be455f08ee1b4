-- the words are the guests so far, and what is left begins the next; each turn passes a command line
use Rattle.std.proofs.Common.{Bor, List, ℕ, Option, Some, None, ◌+◌, length, map, option_map}
use Rattle.virtiofs_options.specs.Guests.{GuestsThen}
use Rattle.virtiofs_options.specs.Unknown.{told}
use Rattle.virtiofs_options.proofs.guests.read_guests.Given as goal

abbrev size : Option (Bor (List (Bor (List ℕ)))) → ℕ
size None = 0
size (Some words) = length words.now + 1

abbrev pub invariant-loop-left : goal.invariant-loop-left
invariant-loop-left l =
    GuestsThen l.fn.options 1 l.fn.first l.read.guests.items (Some l.fn.words) (map told l.read.unknown.items)
    (option_map (λ it. it.now) l.left) l.guest

abbrev pub decreases-loop-left : goal.decreases-loop-left
decreases-loop-left l = size l.left
