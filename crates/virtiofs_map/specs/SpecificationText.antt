-- The texts that mean a specification, as `map:0:1000:10`, and what is wrong with the others.
use Rattle.std.specs.Prelude.{◌≡◌, ◌≢◌, ◌⊎◌, ⊤, ℕ, Bool, false, ◌||◌, ◌==◌, List, [], ◌∷◌, ◌++◌, length, map, codes}
use Rattle.std.specs.Prelude.{string_bytes, Option, Some, None, Err}
use Rattle.std.specs.List.{AllPass, AllZip}
use Rattle.std.specs.Char.{to_ascii_lowercase}
use Rattle.std.specs.Str.{chars}
use Rattle.std.specs.Str.Parse.{ExplainsUnsignedError}
use Rattle.virtiofs_map.specs.Alphanumeric.{is_alphanumeric}
use Rattle.virtiofs_map.specs.Numeral.{IsNumeral}
use Rattle.virtiofs_map.specs.Separator.{split_at_each}
use Rattle.virtiofs_map.specs.declared.cmdline.IdMap.{IdMap}
use Rattle.virtiofs_map.specs.declared.cmdline.IdMap.TheVariants.{Guest, Host, SquashGuest, SquashHost, Bidirectional}
use Rattle.virtiofs_map.specs.declared.cmdline.IdMap.TheVariants.{ForbidGuest}
use Rattle.virtiofs_map.specs.declared.cmdline.IdMapError.{IdMapError}
use Rattle.virtiofs_map.specs.declared.cmdline.IdMapError.TheVariants as errors

-- a character of a prefix: alphanumeric, `-` or `_`
abbrev pub is_word_character : ℕ → Bool
is_word_character c = is_alphanumeric c || (c == 45) || (c == 95)

-- the text with its ASCII letters in lower case
abbrev pub lowered : List ℕ → List ℕ
lowered text = map to_ascii_lowercase text

-- the word of a specification
abbrev pub word_of : IdMap → List ℕ
word_of (Guest from_guest to_host count) = codes "guest"
word_of (Host from_host to_guest count) = codes "host"
word_of (SquashGuest from_guest to_host count) = codes "squash-guest"
word_of (SquashHost from_host to_guest count) = codes "squash-host"
word_of (Bidirectional guest host count) = codes "map"
word_of (ForbidGuest from_guest count) = codes "forbid-guest"

-- the numbers of a specification, in the order in which they are written
abbrev pub numbers_of : IdMap → List ℕ
numbers_of (Guest from_guest to_host count) = from_guest ∷ to_host ∷ count ∷ []
numbers_of (Host from_host to_guest count) = from_host ∷ to_guest ∷ count ∷ []
numbers_of (SquashGuest from_guest to_host count) = from_guest ∷ to_host ∷ count ∷ []
numbers_of (SquashHost from_host to_guest count) = from_host ∷ to_guest ∷ count ∷ []
numbers_of (Bidirectional guest host count) = guest ∷ host ∷ count ∷ []
numbers_of (ForbidGuest from_guest count) = from_guest ∷ count ∷ []

-- the text is a prefix of word characters, which is `word` in lower case, then a separator that is no word character, and
-- then the fields, between which that separator stands
pub record HasParts (text word : List ℕ) (fields : List (List ℕ)) : Type 0 where
  pub prefix : List ℕ
  pub separator : ℕ
  pub rest : List ℕ
  pub whole : text ≡ prefix ++ separator ∷ rest
  pub passed : AllPass is_word_character prefix
  pub ends : is_word_character separator ≡ false
  pub lower : word ≡ lowered prefix
  pub split : fields ≡ split_at_each separator rest

-- no character of the text is a separator
abbrev pub HasNoSeparator : List ℕ → Type 0
HasNoSeparator text = AllPass is_word_character text

-- the text means the specification: it is its word, in upper or lower case, and its numbers between separators
pub record Says (text : List ℕ) (spec : IdMap) : Type 0 where
  pub fields : List (List ℕ)
  pub parts : HasParts text (word_of spec) fields
  pub numbers : AllZip IsNumeral fields (numbers_of spec)

-- the field is no numeral, and each field before it is one
pub record IsFirstNonNumeral (fields : List (List ℕ)) (field : List ℕ) : Type 0 where
  pub before : List (List ℕ)
  pub after : List (List ℕ)
  pub values : List ℕ
  pub here : fields ≡ before ++ field ∷ after
  pub read : AllZip IsNumeral before values
  pub unread : (value : ℕ) → ¬ IsNumeral field value

-- what is wrong with a text that says no specification
pub data SpecificationFault : Type 0 where
  InvalidPrefix : List ℕ → SpecificationFault
  InvalidLength : ℕ → ℕ → SpecificationFault
  InvalidValue : List ℕ → SpecificationFault

-- the fault is that of the first field that is no numeral
abbrev pub IsFieldsFault : List (List ℕ) → SpecificationFault → Type 0
IsFieldsFault fields fault = (field : List ℕ) × (fault ≡ InvalidValue field) × IsFirstNonNumeral fields field

-- the fault is that there is another count of numbers
abbrev pub IsCountFault : ℕ → List ℕ → SpecificationFault → Type 0
IsCountFault count numbers fault = (fault ≡ InvalidLength count (length numbers)) × (length numbers ≢ count)

-- the fault is that the word is that of no specification, or of one that takes another count of numbers
abbrev pub IsWordFault : List ℕ → List ℕ → SpecificationFault → Type 0
IsWordFault word numbers fault =
    ((fault ≡ InvalidPrefix word) × ((spec : IdMap) → word ≢ word_of spec))
    ⊎ ((spec : IdMap) × (word ≡ word_of spec) × IsCountFault (length (numbers_of spec)) numbers fault)

-- the fault is that of the fields, or, if each of them is a numeral, that of the word
abbrev pub IsPartsFault : List ℕ → List (List ℕ) → SpecificationFault → Type 0
IsPartsFault word fields fault =
    IsFieldsFault fields fault ⊎ ((numbers : List ℕ) × AllZip IsNumeral fields numbers × IsWordFault word numbers fault)

-- the text has that fault: it has no separator, or its word and its fields have the fault
unfoldable pub HasSpecificationFault : List ℕ → SpecificationFault → Type 0
HasSpecificationFault text fault =
    (HasNoSeparator text × (fault ≡ InvalidLength 1 0))
    ⊎ ((word : List ℕ) × (fields : List (List ℕ)) × HasParts text word fields × IsPartsFault word fields fault)

-- the fault that an error reports; none if the error is out of memory
abbrev pub specification_fault_of : {A : Type 0} → IdMapError A → Option SpecificationFault
specification_fault_of (errors.InvalidPrefix prefix) = Some (InvalidPrefix (chars (string_bytes prefix)))
specification_fault_of (errors.InvalidLength expected seen) = Some (InvalidLength expected seen)
specification_fault_of (errors.InvalidValue value error) = Some (InvalidValue (chars (string_bytes value)))
specification_fault_of errors.OutOfMemory = None

-- if an error is about a field, its explanation is one that the standard library's contract of `parse` allows for
-- that field
abbrev pub IsExplained : {A : Type 0} → IdMapError A → Type 0
IsExplained (errors.InvalidValue value error) = ExplainsUnsignedError {T = ℕ} 10 (string_bytes value) (Err error)
IsExplained (errors.InvalidPrefix prefix) = ⊤
IsExplained (errors.InvalidLength expected seen) = ⊤
IsExplained errors.OutOfMemory = ⊤
