-- the words that are left are those of the line
use Rattle.std.proofs.Common.{◌≡◌}
use Rattle.virtiofs_host.specs.CutParts.{bytes_left, words_left}
use Rattle.virtiofs_host.proofs.id_map.next_word.Given as goal

abbrev pub invariant-loop-left : goal.invariant-loop-left
invariant-loop-left l = words_left l.fn.rest ≡ words_left l.left

abbrev pub decreases-loop-left : goal.decreases-loop-left
decreases-loop-left l = bytes_left l.left
