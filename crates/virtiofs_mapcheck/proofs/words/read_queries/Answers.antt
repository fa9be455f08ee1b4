use Rattle.virtiofs_mapcheck.proofs.WordsLemmas.{AllZip-unread}
use Rattle.virtiofs_mapcheck.proofs.words.read_queries.Goals as goal

pub returns-in_default : goal.returns-in_default
returns-in_default g c = λ queries. let e = c.in_default.ensures in
    AllZip-unread c.args.words.now c.loop-word.word-index _ queries c.loop-word-test.true e
