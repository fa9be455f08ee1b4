-- What the form `ns` answers.
use Rattle.std.specs.Prelude.{◌⊎◌, ℕ, List, codes}
use Rattle.std.specs.Str.{chars}
use Rattle.virtiofs_map.specs.NamespaceText.{SaysNamespace, NamespaceFault, InvalidDelimiter, IncompleteMap}
use Rattle.virtiofs_map.specs.NamespaceText.{InvalidValue, HasNamespaceFault}
use Rattle.virtiofs_map.specs.Printed.{namespace_text}
use Rattle.virtiofs_mapcheck.specs.Outcome.{IsGiven, IsRefused}
use Rattle.virtiofs_output.specs.declared.outcome.Answered.{Answered}

-- the text says a range, and the answer is its printed form
abbrev pub GivesNamespace : List ℕ → Answered → List ℕ → Type 0
GivesNamespace said answered text =
    (inside outside count : ℕ) × SaysNamespace (chars said) inside outside count
    × IsGiven (namespace_text inside outside count) answered text

-- what is said of a text that says no range
abbrev pub namespace_fault_text : NamespaceFault → List ℕ
namespace_fault_text InvalidDelimiter = codes "InvalidDelimiter"
namespace_fault_text IncompleteMap = codes "IncompleteMap"
namespace_fault_text InvalidValue = codes "InvalidValue"

-- the text says no range, and the answer names its fault
abbrev pub RefusesNamespace : List ℕ → Answered → List ℕ → Type 0
RefusesNamespace said answered text =
    (fault : NamespaceFault) × HasNamespaceFault (chars said) fault
    × IsRefused (namespace_fault_text fault) answered text

-- the answer to a text of a namespace's range
abbrev pub AnswersNamespace : List ℕ → Answered → List ℕ → Type 0
AnswersNamespace said answered text = GivesNamespace said answered text ⊎ RefusesNamespace said answered text
