-- The questions that --explain asks, as they are written.
use Rattle.std.specs.Prelude.{◌≡◌, ◌≢◌, ◌⊎◌, ℕ, ◌<◌, List, [], ◌∷◌, ◌++◌, length, take, slice_get, codes, Contains, IsSomeAnd}
use Rattle.std.specs.Borrow.{Bor}
use Rattle.std.specs.List.{AllZip}
use Rattle.std.specs.Str.{chars}
use Rattle.virtiofs_map.specs.Numeral.{IsNumeral}
use Rattle.virtiofs_map.specs.declared.soft_idmap.entry.Direction.TheVariants.{GuestToHost, HostToGuest}
use Rattle.virtiofs_findings.specs.declared.explain.asking.Question.{Question}
use Rattle.virtiofs_findings.specs.declared.explain.asking.Question.TheVariants.{Id, Name}
use Rattle.virtiofs_findings.specs.declared.explain.asking.QuestionFault.{QuestionFault}
use Rattle.virtiofs_findings.specs.declared.explain.asking.QuestionFault.TheVariants.{Unknown, NoId, NoName}
use Rattle.virtiofs_findings.specs.declared.explain.asking.Questions.{Questions}
use Rattle.virtiofs_findings.specs.declared.explain.asking.Questions.TheVariants.{Read, Wrong}
use Rattle.virtiofs_findings.specs.declared.ids.kind.IdKind.TheVariants.{Users, Groups}

-- the text, in characters, is a number that is an id: 4294967295 is none
abbrev pub SaysId : List ℕ → ℕ → Type 0
SaysId text id = IsNumeral text id × (id < 4294967295)

-- a name that Linux takes: some bytes, at most 255, none of them zero
abbrev pub IsNoName : List ℕ → Type 0
IsNoName name = (name ≡ []) ⊎ (255 < length name) ⊎ Contains name 0

-- the text is that word, and then the id
abbrev pub AsksId : List ℕ → List ℕ → ℕ → Type 0
AsksId word text id = (value : List ℕ) × (text ≡ word ++ value) × SaysId (chars value) id

-- the text is that word, and then the name
abbrev pub AsksName : List ℕ → List ℕ → List ℕ → Type 0
AsksName word text name = (text ≡ word ++ name) × ¬ IsNoName name

-- the text asks that
abbrev pub Asks : List ℕ → Question → Type 0
Asks text (Id Users GuestToHost id) = AsksId (codes "user=") text id
Asks text (Id Groups GuestToHost id) = AsksId (codes "group=") text id
Asks text (Id Users HostToGuest id) = AsksId (codes "host-user=") text id
Asks text (Id Groups HostToGuest id) = AsksId (codes "host-group=") text id
Asks text (Name GuestToHost name) = AsksName (codes "name=") text name.bytes.now
Asks text (Name HostToGuest name) = AsksName (codes "host-name=") text name.bytes.now

-- the words before an id, and those before a name
abbrev pub id_words : List (List ℕ)
id_words = codes "user=" ∷ codes "group=" ∷ codes "host-user=" ∷ codes "host-group=" ∷ []

abbrev pub name_words : List (List ℕ)
name_words = codes "name=" ∷ codes "host-name=" ∷ []

-- what is wrong with a text that asks nothing
abbrev pub HasQuestionFault : List ℕ → QuestionFault → Type 0
HasQuestionFault text Unknown =
    (word : List ℕ) → Contains (id_words ++ name_words) word → (value : List ℕ) → text ≢ word ++ value
HasQuestionFault text NoId =
    (word value : List ℕ) × Contains id_words word × (text ≡ word ++ value) × ((id : ℕ) → ¬ SaysId (chars value) id)
HasQuestionFault text NoName =
    (word value : List ℕ) × Contains name_words word × (text ≡ word ++ value) × IsNoName value

-- the text at that place, counted from 0, asks nothing, and each before it asks something
pub record IsFirstWrong (texts : List (Bor (List ℕ))) (place : ℕ) (text : List ℕ) (fault : QuestionFault) : Type 0 where
  pub before : List Question
  pub ask : AllZip (λ text. Asks text.now) (take place texts) before
  pub here : IsSomeAnd (slice_get texts place) (λ it. it.now ≡ text)
  pub wrong : HasQuestionFault text fault

-- the questions that the texts ask, or what is wrong with the first text that asks nothing
abbrev pub AreQuestions : List (Bor (List ℕ)) → Questions → Type 0
AreQuestions texts (Read questions) = AllZip (λ text. Asks text.now) texts questions.items
AreQuestions texts (Wrong text fault) = (place : ℕ) × IsFirstWrong texts place text.now fault
