-- What texts in bytes say, what is wrong with those that say nothing, and how it is told.
use Rattle.std.specs.Prelude.{◌≡◌, ⊤, ℕ, List, [], length, encode_utf8_all, Option, Some, None}
use Rattle.std.specs.Borrow.{Bor}
use Rattle.std.specs.List.{AllZip}
use Rattle.std.specs.Str.{chars, IsUtf8}
use Rattle.std.specs.Str.Parse.{without_leading_plus, IsParseIntError}
use Rattle.core.specs.declared.str.parse.IntErrorKind.{IntErrorKind}
use Rattle.core.specs.declared.str.parse.IntErrorKind.TheVariants.{PosOverflow}
use Rattle.virtiofs_map.specs.NamespaceText.{SaysNamespace, NamespaceFault, InvalidDelimiter, IncompleteMap}
use Rattle.virtiofs_map.specs.NamespaceText.{HasNamespaceFault}
use Rattle.virtiofs_map.specs.NamespaceText as ranges
use Rattle.virtiofs_map.specs.Rule.{MappingRule}
use Rattle.virtiofs_map.specs.RuleText.{SaysRules}
use Rattle.virtiofs_map.specs.RulesFault.{RulesFault, NoRules, InRule, NotOfText, RuleFault, InvalidScope, InvalidType}
use Rattle.virtiofs_map.specs.RulesFault.{IncompleteRule, MapRuleViolation, NulInPattern, HasRulesFault}
use Rattle.virtiofs_map.specs.SpecificationText.{Says, SpecificationFault, InvalidPrefix, InvalidLength, InvalidValue}
use Rattle.virtiofs_map.specs.SpecificationText.{HasSpecificationFault}
use Rattle.virtiofs_map.specs.declared.cmdline.IdMap.{IdMap as Specification}
use Rattle.virtiofs_map.specs.declared.xattrmap.errors.PatternField.TheVariants.{Key, Prepend}
use Rattle.virtiofs_map_c.specs.Arrays.{ListFault, Unread, Unbuilt, HasListFault, SaysAccepted}
use Rattle.virtiofs_map_c.specs.Faults.{no_part, specification, told_at, quoting, fault_of_kind, memory_fault}
use Rattle.virtiofs_map_c.specs.Faults.{build_told, number_kind, code_of, rule, no_fault}
use Rattle.virtiofs_map_c.specs.Replies.{IsQuoted}
use Rattle.virtiofs_map_c.specs.declared.fault.Fault.{Fault}

-- what is wrong with bytes: they are no text, or their text has a fault
pub data InBytes (F : Type 0) : Type 0 where
  NotUtf8 : InBytes F
  OfText : F → InBytes F

-- the bytes have that fault
abbrev pub HasInBytes : {F : Type 0} → (List ℕ → F → Type 0) → List ℕ → InBytes F → Type 0
HasInBytes has bytes NotUtf8 = ¬ IsUtf8 bytes
HasInBytes has bytes (OfText fault) = IsUtf8 bytes × has (chars bytes) fault

-- ---- one specification

-- the bytes are text, and it says the specification
abbrev pub SaysSpec : List ℕ → Specification → Type 0
SaysSpec bytes spec = IsUtf8 bytes × Says (chars bytes) spec

-- what is wrong with bytes that say no specification
abbrev pub TextFault : Type 0
TextFault = InBytes SpecificationFault

-- the bytes have that fault
abbrev pub HasTextFault : List ℕ → TextFault → Type 0
HasTextFault bytes fault = HasInBytes HasSpecificationFault bytes fault

-- where the fault is that of a field, this is how it is no number: what the standard library's `parse` says of it
abbrev pub IsNumberError : TextFault → IntErrorKind → Type 0
IsNumberError (OfText (InvalidValue field)) kind =
    (bytes : List ℕ) × (chars bytes ≡ field) × IsParseIntError 10 bytes (without_leading_plus bytes) PosOverflow kind
IsNumberError other kind = ⊤

-- what is told of the text that is that part, where there is room for so many bytes of it, and where a field is no
-- number in that way
abbrev pub fault_told : IntErrorKind → ℕ → ℕ → ℕ → TextFault → Fault
fault_told kind part place room NotUtf8 = told_at 2 part place
fault_told kind part place room (OfText (InvalidPrefix word)) =
    quoting (told_at 6 part place) room (encode_utf8_all word)
fault_told kind part place room (OfText (InvalidLength expected seen)) =
    record (told_at 7 part place) { expected = expected; seen = seen }
fault_told kind part place room (OfText (InvalidValue field)) =
    record (quoting (told_at 8 part place) room (encode_utf8_all field)) { number = number_kind kind }

-- what is quoted of it
abbrev pub fault_quoted : TextFault → List ℕ
fault_quoted (OfText (InvalidPrefix word)) = encode_utf8_all word
fault_quoted (OfText (InvalidValue field)) = encode_utf8_all field
fault_quoted other = []

-- what is wrong with the text that is that part is told and quoted
pub record IsFaultTold (part place : ℕ) (told : Fault) (old new : List ℕ) (fault : TextFault) : Type 0 where
  pub kind : IntErrorKind
  pub explained : IsNumberError fault kind
  pub numbers : told ≡ fault_told kind part place (length old) fault
  pub bytes : IsQuoted (fault_quoted fault) old new

-- the same, or out of memory
abbrev pub IsTextAt : ℕ → ℕ → Fault → List ℕ → List ℕ → Option TextFault → Type 0
IsTextAt part place told old new None = (told ≡ memory_fault) × (new ≡ old)
IsTextAt part place told old new (Some fault) = IsFaultTold part place told old new fault

-- the same with its code, of a text that is no part
pub record IsTextTold (code : ℕ) (told : Fault) (old new : List ℕ) (fault : Option TextFault) : Type 0 where
  pub code_told : code ≡ code_of told
  pub is_told : IsTextAt no_part 0 told old new fault

-- ---- an array of texts

-- a text that is lent says the specification
abbrev pub LentSays : Bor (List ℕ) → Specification → Type 0
LentSays text spec = SaysSpec text.now spec

-- or has that fault
abbrev pub LentHas : Bor (List ℕ) → TextFault → Type 0
LentHas text fault = HasTextFault text.now fault

-- each of the texts says the specification at its place
abbrev pub AllSaySpecs : List (Bor (List ℕ)) → List Specification → Type 0
AllSaySpecs texts specs = AllZip LentSays texts specs

-- the texts say an accepted list
abbrev pub AreAccepted : List (Bor (List ℕ)) → Type 0
AreAccepted texts = SaysAccepted LentSays texts

-- what is wrong with an array of texts of which no map is made: a text has a fault, or the list
abbrev pub TextsFault : Type 0
TextsFault = ListFault TextFault

-- the array of texts has that fault
abbrev pub HasTextsFault : List (Bor (List ℕ)) → TextsFault → Type 0
HasTextsFault texts fault = HasListFault LentSays LentHas texts fault

-- what is wrong with it, or out of memory, is told and quoted
abbrev pub AreTextsTold : ℕ → Fault → List ℕ → List ℕ → Option TextsFault → Type 0
AreTextsTold code told old new None = (code ≡ code_of told) × (told ≡ memory_fault) × (new ≡ old)
AreTextsTold code told old new (Some (Unread index fault)) =
    (code ≡ code_of told) × IsFaultTold specification index told old new fault
AreTextsTold code told old new (Some (Unbuilt fault)) =
    (code ≡ code_of told) × (told ≡ build_told fault) × (new ≡ old)

-- ---- a range of a namespace

-- the bytes are text, and it says the range
abbrev pub SaysRange : List ℕ → ℕ → ℕ → ℕ → Type 0
SaysRange bytes inside outside count = IsUtf8 bytes × SaysNamespace (chars bytes) inside outside count

-- what is wrong with bytes that say no range
abbrev pub RangeFault : Type 0
RangeFault = InBytes NamespaceFault

-- the bytes have that fault
abbrev pub HasRangeFault : List ℕ → RangeFault → Type 0
HasRangeFault bytes fault = HasInBytes HasNamespaceFault bytes fault

-- what is told of a fault, where a field is no number in that way
abbrev pub range_told : IntErrorKind → RangeFault → Fault
range_told kind NotUtf8 = fault_of_kind 2
range_told kind (OfText InvalidDelimiter) = fault_of_kind 9
range_told kind (OfText IncompleteMap) = fault_of_kind 10
range_told kind (OfText ranges.InvalidValue) = record (fault_of_kind 11) { number = number_kind kind }

-- what is wrong with bytes that say no range is told
abbrev pub IsRangeTold : Fault → RangeFault → Type 0
IsRangeTold told fault = (kind : IntErrorKind) × (told ≡ range_told kind fault)

-- ---- rules

-- the bytes are text, and it says the rules
abbrev pub BytesSayRules : List ℕ → List MappingRule → Type 0
BytesSayRules bytes rules = IsUtf8 bytes × SaysRules (chars bytes) rules

-- what is wrong with bytes that are no text of rules
abbrev pub BytesFault : Type 0
BytesFault = InBytes RulesFault

-- the bytes have that fault
abbrev pub HasBytesFault : List ℕ → BytesFault → Type 0
HasBytesFault bytes fault = HasInBytes HasRulesFault bytes fault

-- the number of the kind of what is wrong with a rule
abbrev pub rule_kind : RuleFault → ℕ
rule_kind (InvalidScope got expected) = 12
rule_kind (InvalidType got expected) = 13
rule_kind IncompleteRule = 14
rule_kind MapRuleViolation = 15
rule_kind (NulInPattern Key) = 17
rule_kind (NulInPattern Prepend) = 18

-- the bytes that are quoted of what is wrong with a rule: the field in the place of a scope or of a type
abbrev pub rule_quoted : RuleFault → List ℕ
rule_quoted (InvalidScope got expected) = encode_utf8_all got
rule_quoted (InvalidType got expected) = encode_utf8_all got
rule_quoted other = []

-- what is told of what is wrong with a text of rules, or of out of memory, where there is room for that many bytes
abbrev pub bytes_told : ℕ → Option BytesFault → Fault
bytes_told room None = memory_fault
bytes_told room (Some NotUtf8) = told_at 2 rule 0
bytes_told room (Some (OfText NoRules)) = told_at 16 rule 0
bytes_told room (Some (OfText (InRule k fault))) = quoting (told_at (rule_kind fault) rule k) room (rule_quoted fault)
bytes_told room (Some (OfText NotOfText)) = no_fault

-- what is quoted of a text of rules at fault
abbrev pub bytes_quoted : Option BytesFault → List ℕ
bytes_quoted (Some (OfText (InRule k fault))) = rule_quoted fault
bytes_quoted other = []

-- what is wrong with a text of rules, or out of memory, is told and quoted
pub record IsBytesTold (code : ℕ) (told : Fault) (old new : List ℕ) (fault : Option BytesFault) : Type 0 where
  pub code_told : code ≡ code_of told
  pub numbers : told ≡ bytes_told (length old) fault
  pub bytes : IsQuoted (bytes_quoted fault) old new
