-- What the form `ids` answers.
use Rattle.std.specs.Prelude.{◌≡◌, ◌⊎◌, ℕ, List, ◌++◌, map, codes, encode_utf8_all, Some, None}
use Rattle.std.specs.Fmt.{decimal}
use Rattle.std.specs.List.{AllZip, concat}
use Rattle.std.specs.Str.{chars}
use Rattle.virtiofs_map.specs.Build.{Accepted, RangeOverflow, Intersects}
use Rattle.virtiofs_map.specs.Mapping.{Becomes}
use Rattle.virtiofs_map.specs.Printed.{forbidden_text, build_error_text}
use Rattle.virtiofs_map.specs.SpecificationText.{SpecificationFault, InvalidPrefix, InvalidLength, InvalidValue}
use Rattle.virtiofs_map.specs.Specifications.{AllSay, SpecsFault, Unread, Unbuilt, HasSpecsFault}
use Rattle.virtiofs_map.specs.declared.cmdline.IdMap.{IdMap}
use Rattle.virtiofs_map.specs.declared.soft_idmap.errors.IdMapBuildError.TheVariants as errors
use Rattle.virtiofs_mapcheck.specs.Outcome.{IsRefused}
use Rattle.virtiofs_output.specs.Written.{quoted, line}
use Rattle.virtiofs_output.specs.declared.outcome.Answered.{Answered}
use Rattle.virtiofs_output.specs.declared.outcome.Answered.TheVariants.{Given}
use Rattle.virtiofs_mapcheck.specs.declared.words.Query.{Query}

-- the line of a query: the number that the other becomes, or that its use fails
abbrev pub IsLine : List IdMap → Query → List ℕ → Type 0
IsLine specs query text =
    ((value : ℕ) × Becomes specs query.direction query.number (Some value) × (text ≡ line (decimal value)))
    ⊎ (Becomes specs query.direction query.number None × (text ≡ line (forbidden_text query.number)))

-- the texts say accepted specifications, and the text is a line for each query
pub record GivesIds (texts : List (List ℕ)) (queries : List Query) (text : List ℕ) : Type 0 where
  pub specs : List IdMap
  pub lines : List (List ℕ)
  pub say : AllSay (map chars texts) specs
  pub accepted : Accepted specs
  pub answered : AllZip (IsLine specs) queries lines
  pub whole : text ≡ concat lines

-- what is said of a text that says no specification
abbrev pub specification_fault_text : SpecificationFault → List ℕ
specification_fault_text (InvalidPrefix word) = codes "InvalidPrefix " ++ quoted (encode_utf8_all word)
specification_fault_text (InvalidLength expected seen) =
    codes "InvalidLength expected " ++ decimal expected ++ codes " seen " ++ decimal seen
specification_fault_text (InvalidValue field) = codes "InvalidValue " ++ quoted (encode_utf8_all field)

-- what is wrong with the specification at that index, counted from 0
abbrev pub at_index : ℕ → List ℕ → List ℕ
at_index index why = codes "specification " ++ decimal index ++ codes ": " ++ why

-- what is said of texts of which no map is made; a fault of the build is said as the library prints it
abbrev pub specs_fault_text : SpecsFault → List ℕ
specs_fault_text (Unread index fault) = at_index index (specification_fault_text fault)
specs_fault_text (Unbuilt (RangeOverflow spec index direction range_end)) =
    at_index index (build_error_text (errors.RangeOverflow spec index direction range_end))
specs_fault_text (Unbuilt (Intersects spec index direction)) =
    at_index index (build_error_text (errors.Intersects spec index direction))

-- no map is made of the texts, and the answer names their fault
abbrev pub RefusesIds : List (List ℕ) → Answered → List ℕ → Type 0
RefusesIds texts answered text =
    (fault : SpecsFault) × HasSpecsFault (map chars texts) fault × IsRefused (specs_fault_text fault) answered text

-- the answer to queries under the specifications of texts
abbrev pub AnswersIds : List (List ℕ) → List Query → Answered → List ℕ → Type 0
AnswersIds texts queries answered text =
    ((answered ≡ Given) × GivesIds texts queries text) ⊎ RefusesIds texts answered text
