-- The forms of the program's words. A word is its bytes in UTF-8.
use Rattle.std.specs.Prelude.{◌≡◌, ◌≢◌, ℕ, ◌<◌, List, [], ◌∷◌, ◌++◌, length, map, codes, All}
use Rattle.std.specs.Borrow.{Bor}
use Rattle.std.specs.List.{AllZip}
use Rattle.std.specs.Str.{chars}
use Rattle.virtiofs_map.specs.Numeral.{IsNumeral}
use Rattle.virtiofs_map.specs.declared.soft_idmap.entry.Direction.{Direction}
use Rattle.virtiofs_map.specs.declared.soft_idmap.entry.Direction.TheVariants.{GuestToHost, HostToGuest}
use Rattle.virtiofs_mapcheck.specs.declared.words.Query.{Query}

-- the words, as bytes
abbrev pub words_of : List (Bor (List ℕ)) → List (List ℕ)
words_of words = map (λ word. word.now) words

-- the word that divides specifications from queries
abbrev pub ask : List ℕ
ask = codes "ask"

-- what a query of that direction begins with
abbrev pub query_front : Direction → List ℕ
query_front GuestToHost = codes "guest="
query_front HostToGuest = codes "host="

-- the word asks for that number in that direction
pub record Asks (word : List ℕ) (query : Query) : Type 0 where
  pub numeral : List ℕ
  pub whole : word ≡ query_front query.direction ++ numeral
  pub number : IsNumeral (chars numeral) query.number

-- what the words ask for: ids under specifications, the meaning of a namespace text, what becomes of a guest's name or
-- of a host's names under rules, or what holds of all names under rules or under two texts of them
pub data Form : Type 0 where
  Ids : List (List ℕ) → List Query → Form
  Namespace : List ℕ → Form
  Client : List ℕ → List ℕ → Form
  Server : List ℕ → List (List ℕ) → Form
  Terminated : List ℕ → Form
  Audit : List ℕ → Form
  Apart : List ℕ → List ℕ → Form

-- the words are `ids`, specifications, the first `ask`, and then one query or more
pub record IsIds (words specs : List (List ℕ)) (queries : List Query) : Type 0 where
  pub asked : List (List ℕ)
  pub whole : words ≡ codes "ids" ∷ specs ++ ask ∷ asked
  pub first : All (λ word. word ≢ ask) specs
  pub some : 0 < length asked
  pub read : AllZip Asks asked queries

-- the words have that form: a first word that tells which, and its own
abbrev pub HasForm : List (List ℕ) → Form → Type 0
HasForm words (Ids specs queries) = IsIds words specs queries
HasForm words (Namespace text) = words ≡ codes "ns" ∷ text ∷ []
HasForm words (Client rules name) = (words ≡ codes "client" ∷ rules ∷ name ∷ []) × All (λ byte. byte ≢ 0) name
HasForm words (Server rules names) = words ≡ codes "server" ∷ rules ∷ names
HasForm words (Terminated rules) = words ≡ codes "terminated" ∷ rules ∷ []
HasForm words (Audit rules) = words ≡ codes "audit" ∷ rules ∷ []
HasForm words (Apart first second) = words ≡ codes "apart" ∷ first ∷ second ∷ []

-- the words have no form
abbrev pub HasNoForm : List (List ℕ) → Type 0
HasNoForm words = (form : Form) → HasForm words form → ⊥
