-- Names of attributes have one answer under a text of rules.
use Rattle.std.proofs.Common.{rules, ℕ, List, Option}
use Rattle.virtiofs_map.specs.Names.{ClientAnswer}
use Rattle.virtiofs_mapcheck.specs.AttributesAnswer.{AnswersName, AnswersClient, AnswersList, AnswersServer}
use Rattle.virtiofs_mapcheck.specs.Outcome.{AreOne}
use Rattle.virtiofs_mapcheck.proofs.RulesAnswerLemmas.{WithRules-one}

AnswersName-one : (answer : ClientAnswer) → AreOne (AnswersName answer)
AnswersName-one answer = search rules

pub AnswersClient-one : (said name : List ℕ) → AreOne (AnswersClient said name)
AnswersClient-one said name = search (rules, WithRules-one, AnswersName-one)

AnswersList-one : (list : Option (List ℕ)) → AreOne (AnswersList list)
AnswersList-one list = search rules

pub AnswersServer-one : (said : List ℕ) (names : List (List ℕ)) → AreOne (AnswersServer said names)
AnswersServer-one said names = search (rules, WithRules-one, AnswersList-one)
