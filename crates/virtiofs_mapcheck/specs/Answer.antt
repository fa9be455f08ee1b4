-- What the program answers to its words.
use Rattle.std.specs.Prelude.{◌≡◌, ◌⊎◌, ℕ, List, codes}
use Rattle.virtiofs_mapcheck.specs.AttributesAnswer.{AnswersClient, AnswersServer}
use Rattle.virtiofs_mapcheck.specs.AuditsAnswer.{AnswersTerminated, AnswersAudit, AnswersApart}
use Rattle.virtiofs_mapcheck.specs.IdsAnswer.{AnswersIds}
use Rattle.virtiofs_mapcheck.specs.NamespaceAnswer.{AnswersNamespace}
use Rattle.virtiofs_mapcheck.specs.Outcome.{AreOne}
use Rattle.virtiofs_mapcheck.specs.Words.{Form, Ids, Namespace, Client, Server, Terminated, Audit, Apart, HasForm}
use Rattle.virtiofs_mapcheck.specs.Words.{HasNoForm}
use Rattle.virtiofs_output.specs.Written.{line}
use Rattle.virtiofs_output.specs.declared.outcome.Answered.{Answered}
use Rattle.virtiofs_output.specs.declared.outcome.Answered.TheVariants.{WrongWords}

-- the outcome and the text that the words of a form come to
abbrev pub AnswersForm : Form → Answered → List ℕ → Type 0
AnswersForm (Ids texts queries) = AnswersIds texts queries
AnswersForm (Namespace text) = AnswersNamespace text
AnswersForm (Client rules name) = AnswersClient rules name
AnswersForm (Server rules names) = AnswersServer rules names
AnswersForm (Terminated rules) = AnswersTerminated rules
AnswersForm (Audit rules) = AnswersAudit rules
AnswersForm (Apart first second) = AnswersApart first second

-- the words have a form and are answered by it, or they have none and are wrong words
abbrev pub Answers : List (List ℕ) → Answered → List ℕ → Type 0
Answers words answered text =
    ((form : Form) × HasForm words form × AnswersForm form answered text)
    ⊎ (HasNoForm words × (answered ≡ WrongWords) × (text ≡ line (codes "wrong words")))

-- the words come to one outcome alone, with one text
abbrev pub HasOneAnswer : List (List ℕ) → Type 0
HasOneAnswer words = AreOne (Answers words)
