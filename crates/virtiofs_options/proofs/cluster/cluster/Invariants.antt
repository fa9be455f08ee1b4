-- the letters stand for the words so far and those of the letters that are left
use Rattle.std.proofs.Common.{◌≡◌, ◌++◌, length, map, option_map}
use denote.Shadow.{shadow}
use denote.Text.{Utf8}
use Rattle.virtiofs_options.specs.Clusters.{cluster, plain}
use Rattle.virtiofs_options.proofs.cluster.cluster.Given as goal

abbrev pub invariant-loop-letter : goal.invariant-loop-letter
invariant-loop-letter l =
    shadow (Utf8 l.left)
    × (cluster l.fn.options l.fn.letters
    ≡ option_map (λ more. map plain l.words.items ++ more) (cluster l.fn.options l.left))

abbrev pub decreases-loop-letter : goal.decreases-loop-letter
decreases-loop-letter l = length l.left
