-- The exact texts of values and of faults, as bytes.
use Rattle.std.specs.Prelude.{ℕ, ◌+◌, List, [], ◌++◌, flat_map, codes, Option, Some, None}
use Rattle.std.specs.Fmt.{decimal}
use Rattle.std.specs.String.{string_bytes}
use Rattle.virtiofs_map.specs.Mapping.{entry_of}
use Rattle.virtiofs_map.specs.SpecificationText.{word_of, numbers_of}
use Rattle.virtiofs_map.specs.declared.cmdline.IdMap.{IdMap}
use Rattle.virtiofs_map.specs.declared.soft_idmap.entry.Direction.{Direction}
use Rattle.virtiofs_map.specs.declared.soft_idmap.entry.Direction.TheVariants.{GuestToHost, HostToGuest}
use Rattle.virtiofs_map.specs.declared.soft_idmap.entry.Entry.{Entry}
use Rattle.virtiofs_map.specs.declared.soft_idmap.entry.Entry.TheVariants.{Map, Squash, Fail}
use Rattle.virtiofs_map.specs.declared.soft_idmap.errors.MapError.{MapError}
use Rattle.virtiofs_map.specs.declared.soft_idmap.errors.MapError.TheVariants.{ExplicitFailMapping}
use Rattle.virtiofs_map.specs.declared.soft_idmap.errors.IdMapBuildError.{IdMapBuildError}
use Rattle.virtiofs_map.specs.declared.soft_idmap.errors.IdMapBuildError.TheVariants.{RangeOverflow, Intersects}
use Rattle.virtiofs_map.specs.declared.soft_idmap.errors.IdMapBuildError.TheVariants.{OutOfMemory}
use Rattle.virtiofs_map.specs.declared.xattrmap.errors.Error.{Error}
use Rattle.virtiofs_map.specs.declared.xattrmap.errors.ErrorKind.{ErrorKind}
use Rattle.virtiofs_map.specs.declared.xattrmap.errors.ErrorKind.TheVariants as kinds
use Rattle.virtiofs_map.specs.declared.xattrmap.errors.PatternField.{PatternField}
use Rattle.virtiofs_map.specs.declared.xattrmap.errors.PatternField.TheVariants.{Key, Prepend}

-- Specifications, and the faults of ids and of maps.

-- a specification: its word, and each of its numbers in decimal after a colon, as `map:0:1000:10`
abbrev pub specification_text : IdMap → List ℕ
specification_text spec = word_of spec ++ flat_map (λ n. codes ":" ++ decimal n) (numbers_of spec)

-- the count numbers from first on, by their first and by the end past their last, as `[5, 15)`
abbrev pub range_text : ℕ → ℕ → List ℕ
range_text first count = codes "[" ++ decimal first ++ codes ", " ++ decimal (first + count) ++ codes ")"

-- what a specification sets up in one direction
abbrev pub entry_text : Entry → List ℕ
entry_text (Map first to count) = codes "map " ++ range_text first count ++ codes " to " ++ range_text to count
entry_text (Squash first to count) = codes "squash " ++ range_text first count ++ codes " to " ++ decimal to
entry_text (Fail first count) = codes "fail " ++ range_text first count

-- nothing where the specification does not act on the direction
abbrev pub set_up_text : Option Entry → List ℕ
set_up_text (Some entry) = entry_text entry
set_up_text None = []

-- a direction at the beginning of a sentence
abbrev pub direction_text : Direction → List ℕ
direction_text GuestToHost = codes "Guest-to-host"
direction_text HostToGuest = codes "Host-to-guest"

-- why the id of that number is not mapped
abbrev pub forbidden_text : ℕ → List ℕ
forbidden_text number = codes "Use of ID " ++ decimal number ++ codes " has been configured to fail"

-- why an id is not mapped, by its number in decimal
abbrev pub map_error_text : {Source Difference Inner Offset : Type 0}
    → (Source → ℕ) → MapError Source Difference Inner Offset → List ℕ
map_error_text number (ExplicitFailMapping id) = forbidden_text (number id)

-- why no map is made; the entry is that of the specification at fault
abbrev pub build_error_text : IdMapBuildError → List ℕ
build_error_text (RangeOverflow spec index direction range_end) =
    codes "Parameter " ++ specification_text spec ++ codes ": Range overflow"
build_error_text (Intersects spec index direction) =
    direction_text direction ++ codes " mapping '" ++ set_up_text (entry_of spec direction)
    ++ codes "' intersects previously added entry"
build_error_text OutOfMemory = codes "Out of memory"

-- Ranges of a namespace.

-- `:inside:outside:count:`, in decimal
abbrev pub namespace_text : ℕ → ℕ → ℕ → List ℕ
namespace_text inside outside count =
    codes ":" ++ decimal inside ++ codes ":" ++ decimal outside ++ codes ":" ++ decimal count ++ codes ":"

-- Texts of rules, and names under them.

-- a pattern at the beginning of a sentence
abbrev pub pattern_text : PatternField → List ℕ
pattern_text Key = codes "Key"
pattern_text Prepend = codes "Prepend"

-- what a rule has in the place of a word, and the words that could stand there
abbrev pub unexpected_text : List ℕ → List ℕ → List ℕ
unexpected_text got expected = got ++ (codes "', expected one of: " ++ expected)

-- what is wrong
abbrev pub cause_text : {A : Type 0} → ErrorKind A → List ℕ
cause_text (kinds.InvalidScope got expected) =
    codes "invalid scope '" ++ unexpected_text (string_bytes got) expected.now
cause_text (kinds.InvalidType got expected) = codes "invalid type '" ++ unexpected_text (string_bytes got) expected.now
cause_text kinds.InvalidDelimiter = codes "the delimiter is not the rule's first"
cause_text kinds.IncompleteRule = codes "the rule is incomplete"
cause_text kinds.MapRuleViolation = codes "a map rule has to stand last"
cause_text kinds.NoRulesProvided = codes "there are no rules"
cause_text kinds.UnterminatedMapping = codes "no rule fits the name"
cause_text (kinds.NulInPattern pattern) = pattern_text pattern ++ codes " holds NUL"
cause_text kinds.OutOfMemory = codes "Out of memory"

-- the number of the rule that is blamed, counted from 1, if one is
abbrev pub blamed_rule_text : Option ℕ → List ℕ
blamed_rule_text (Some number) = codes "rule " ++ decimal number ++ codes ": "
blamed_rule_text None = []

-- what is wrong, and in which rule
abbrev pub rules_error_text : {A : Type 0} → Error A → List ℕ
rules_error_text error = blamed_rule_text error.rule ++ cause_text error.cause
