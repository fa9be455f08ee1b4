use Rattle.std.proofs.Common.{rules}
use Rattle.std.proofs.lemmas.Slice.Eq.{bytes_eq-Decides}
use Rattle.virtiofs_mapcheck.proofs.WordsLemmas.{IsCutAtAsk-here, All-words}
use Rattle.virtiofs_mapcheck.proofs.words.cut_at_ask.Goals as goal

pub returns-then-eq : goal.returns-then-eq
returns-then-eq c = search (rules, IsCutAtAsk-here, bytes_eq-Decides)

pub returns : goal.returns
returns c = All-words c.args.words.now c.loop-i.i c.loop-i-test.false c.loop-i.invariant
