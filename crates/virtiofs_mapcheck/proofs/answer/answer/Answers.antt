use Rattle.virtiofs_mapcheck.specs.Words.{words_of}
use Rattle.virtiofs_mapcheck.proofs.AnswerLemmas.{HasOneAnswer-words}
use Rattle.virtiofs_mapcheck.proofs.answer.answer.Goals as goal

pub returns-in_err-answered-clause-one_answer : goal.returns-in_err-answered-clause-one_answer
returns-in_err-answered-clause-one_answer g c = HasOneAnswer-words (words_of c.args.words.now)

pub returns-clause-one_answer : goal.returns-clause-one_answer
returns-clause-one_answer g c = HasOneAnswer-words (words_of c.args.words.now)

pub returns-in_err-emit-clause-one_answer : goal.returns-in_err-emit-clause-one_answer
returns-in_err-emit-clause-one_answer g c = HasOneAnswer-words (words_of c.args.words.now)

pub returns-clause-failed : goal.returns-clause-failed
returns-clause-failed g c = let sound = c.in_ok-emit.ensures.whole.sound in (λ is. cc, λ failed. cc)
