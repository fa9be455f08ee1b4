-- Words that zero bytes end.
use Rattle.std.proofs.Common.{arith, ◌≡◌, ℕ, List, [], ◌∷◌, ◌++◌}
use Rattle.std.proofs.lemmas.List.{map_push}
use Rattle.virtiofs_host.specs.CommandLine.{BeginsWord}
use Rattle.virtiofs_host.proofs.CutLemmas.{cut_one, Lacks-not}
use Rattle.virtiofs_host.proofs.SequenceLemmas.{IsRead, read_all}

not_empty : (word rest : List ℕ) → [] ≡ word ++ 0 ∷ rest → ⊥
not_empty [] rest same = cc
not_empty (c ∷ word) rest same = cc

-- a text begins with one word
pub BeginsWord-read : IsRead BeginsWord
BeginsWord-read = grind (arith, not_empty, Lacks-not, cut_one)

-- words that are read one after another
pub ruleset words_read = (read_all, BeginsWord-read, map_push)
