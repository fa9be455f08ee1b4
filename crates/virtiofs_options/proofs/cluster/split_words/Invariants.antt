-- the words so far were split
use Rattle.std.proofs.Common.{◌≡◌, map, take}
use Rattle.virtiofs_options.specs.Clusters.{plain, split_words}
use Rattle.virtiofs_options.proofs.cluster.split_words.Given as goal

abbrev pub invariant-loop-word : goal.invariant-loop-word
invariant-loop-word l = map plain l.all.items ≡ split_words l.fn.options (take l.word-index l.words)
