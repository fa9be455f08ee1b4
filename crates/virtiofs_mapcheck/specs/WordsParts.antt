-- What the parts of the reader of words answer. Only private functions cite these words.
use Rattle.std.specs.Prelude.{◌≡◌, ◌≢◌, ℕ, List, ◌∷◌, ◌++◌, All}
use Rattle.virtiofs_mapcheck.specs.Words.{words_of, ask, Form, Ids, Namespace, Client, Server, Terminated, Audit, Apart}
use Rattle.virtiofs_mapcheck.specs.declared.words.Words.{Words}
use Rattle.virtiofs_mapcheck.specs.declared.words.Words.TheVariants as read

-- the words are cut at the first `ask`
pub record IsCutAtAsk (words front back : List (List ℕ)) : Type 0 where
  pub whole : words ≡ front ++ ask ∷ back
  pub first : All (λ word. word ≢ ask) front

-- the form that was read
abbrev pub form_of : {A : Type 0} → Words A → Form
form_of (read.Ids specs queries) = Ids (words_of specs.now) queries.items
form_of (read.Namespace text) = Namespace text.now
form_of (read.Client rules name) = Client rules.now name.bytes.now
form_of (read.Server rules names) = Server rules.now (words_of names.now)
form_of (read.Terminated rules) = Terminated rules.now
form_of (read.Audit rules) = Audit rules.now
form_of (read.Apart first second) = Apart first.now second.now
