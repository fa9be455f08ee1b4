use Rattle.std.proofs.Common.{take}
use Rattle.std.specs.List.{AllZip}
use Rattle.virtiofs_mapcheck.specs.Words.{words_of, Asks}
use Rattle.virtiofs_mapcheck.proofs.words.read_queries.Given as goal

-- each word so far is the query that was read of it
abbrev pub invariant-loop-word : goal.invariant-loop-word
invariant-loop-word g l = AllZip Asks (words_of (take l.word-index l.words)) l.queries.items
