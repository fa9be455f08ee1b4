-- How the program ends where there are answers on several directories.
use Rattle.std.specs.Prelude.{List, Bool, true, false, length, nat_lt, if◌then◌else◌}
use Rattle.std.specs.List.{list_any}
use Rattle.virtiofs_mapaudit.specs.declared.whole.Said.{Said}
use Rattle.virtiofs_output.specs.declared.outcome.Answered.{Answered}
use Rattle.virtiofs_output.specs.declared.outcome.Answered.TheVariants.{Given, Refused, WrongWords, Found}

-- a daemon was not read
abbrev pub is_unread : Said → Bool
is_unread said = nat_lt 0 (length said.unread.items)

abbrev pub is_refused : Answered → Bool
is_refused Refused = true
is_refused _ = false

abbrev pub is_found : Answered → Bool
is_found Found = true
is_found _ = false

-- one of the directories is such
abbrev pub has_unread : List Said → Bool
has_unread all = list_any (λ said. is_unread said) all

abbrev pub has_refused : List Said → Bool
has_refused all = list_any (λ said. is_refused said.answer.outcome) all

abbrev pub has_found : List Said → Bool
has_found all = list_any (λ said. is_found said.answer.outcome) all

-- as with wrong words where a daemon was not read, else refused where a text is, and else found where something was found
abbrev pub worst : List Said → Answered
worst all = if has_unread all then WrongWords else (if has_refused all then Refused else (if has_found all then Found else Given))
