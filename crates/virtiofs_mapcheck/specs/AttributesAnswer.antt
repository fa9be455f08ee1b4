-- What the forms `client` and `server` answer.
use Rattle.std.specs.Prelude.{ℕ, List, [], ◌∷◌, ◌++◌, codes, Option, Some, None}
use Rattle.std.specs.List.{flat_map}
use Rattle.virtiofs_map.specs.Names.{ClientAnswer, Passes, IsDenied, IsUnsupported, IsUnterminated, client_answer}
use Rattle.virtiofs_map.specs.Names.{server_answer}
use Rattle.virtiofs_mapcheck.specs.Outcome.{IsGiven, IsRefused}
use Rattle.virtiofs_mapcheck.specs.RulesAnswer.{WithRules}
use Rattle.virtiofs_output.specs.Written.{written}
use Rattle.virtiofs_output.specs.declared.outcome.Answered.{Answered}

-- what is said of names that no rule decides
abbrev pub undecided : List ℕ
undecided = codes "UnterminatedMapping"

-- the answer says what becomes of a name from the guest
abbrev pub AnswersName : ClientAnswer → Answered → List ℕ → Type 0
AnswersName (Passes name) answered text = IsGiven (codes "pass " ++ written name) answered text
AnswersName IsDenied answered text = IsGiven (codes "deny") answered text
AnswersName IsUnsupported answered text = IsGiven (codes "unsupported") answered text
AnswersName IsUnterminated answered text = IsRefused undecided answered text

-- the answer to a name from the guest under a text of rules
abbrev pub AnswersClient : List ℕ → List ℕ → Answered → List ℕ → Type 0
AnswersClient said name = WithRules [] said (λ rules. AnswersName (client_answer rules name))

-- the list of names from the host: a zero after each
abbrev pub list_of : List (List ℕ) → List ℕ
list_of names = flat_map (λ name. name ++ 0 ∷ []) names

-- the answer is the list that the guest gets
abbrev pub AnswersList : Option (List ℕ) → Answered → List ℕ → Type 0
AnswersList (Some list) answered text = IsGiven (written list) answered text
AnswersList None answered text = IsRefused undecided answered text

-- the answer to names from the host under a text of rules
abbrev pub AnswersServer : List ℕ → List (List ℕ) → Answered → List ℕ → Type 0
AnswersServer said names = WithRules [] said (λ rules. AnswersList (server_answer rules (list_of names)))
