use Rattle.std.proofs.Common.{◌≢◌, List, ℕ, All, take}
use Rattle.virtiofs_mapcheck.specs.Words.{words_of, ask}
use Rattle.virtiofs_mapcheck.proofs.words.cut_at_ask.Given as goal

-- none of the words so far is `ask`
abbrev pub invariant-loop-i : goal.invariant-loop-i
invariant-loop-i l = All {X = List ℕ} (λ word. word ≢ ask) (words_of (take l.i l.words))
