-- The words of a command line, and the parts that they are.
use Rattle.std.specs.Prelude.{◌≡◌, ◌==◌, ◌≢◌, ◌<◌, ◌≤◌, ◌⊎◌, ℕ, length, drop, ◌∷◌, ◌++◌, List, [], IsTrue, IsFalse, Bool, true, false, not, ◌&&◌, nat_eq, Option, Some, None, find, bytes_eq, codes, slice_index, EachIndex, if◌then◌else◌}
use Rattle.std.specs.Borrow.{Bor}
use Rattle.std.specs.List.{before_first}
use Rattle.virtiofs_options.specs.declared.command.Part.{Part}
use Rattle.virtiofs_options.specs.declared.command.Part.TheVariants.{Plain, Flag, Valued, Stray}
use Rattle.virtiofs_options.specs.declared.fault.Fault.{Fault}
use Rattle.virtiofs_options.specs.declared.fault.Fault.TheVariants.{Unknown, Missing, Unwanted}
use Rattle.virtiofs_options.specs.declared.fault.ReadError.{ReadError}
use Rattle.virtiofs_options.specs.declared.fault.ReadError.TheVariants.{OutOfMemory, Wrong}
use Rattle.virtiofs_options.specs.declared.options.Known.{Known}
use Rattle.virtiofs_options.specs.declared.options.Options.{Options}
use Rattle.virtiofs_options.specs.declared.options.Sets.{Sets}
use Rattle.virtiofs_options.specs.declared.options.Sets.TheVariants as sets
use Rattle.virtiofs_options.specs.declared.options.Takes.TheVariants as takes
use Rattle.virtiofs_options.specs.declared.command.Word.{Word}

-- a word that looks like an option: it begins with `-`, and is not `-` alone
abbrev pub is_option : List ℕ → Bool
is_option word = nat_eq (slice_index word 0) 45 && not (bytes_eq word (codes "-"))

-- a word that looks like an option, and is no value that is joined to the option before it
abbrev pub begins_option : Word → Bool
begins_option word = not word.is_joined && is_option word.text.now

abbrev pub IsOption : Word → Type 0
IsOption word = IsTrue (begins_option word)

-- the text before the first `=`
abbrev pub key_of : List ℕ → List ℕ
key_of text = before_first (λ byte. byte == 61) text

-- the option of that name, where it is known
abbrev pub known_of : Options → List ℕ → Option Known
known_of options name = find (λ it. bytes_eq it.name.now name) options.known.now

-- a text without `=`
abbrev pub LacksEquals : List ℕ → Type 0
LacksEquals text = EachIndex text (λ k. slice_index text k ≢ 61)

-- `--name=value`
abbrev pub JoinsLong : List ℕ → List ℕ → List ℕ → Type 0
JoinsLong word name value =
    (word ≡ name ++ (codes "=" ++ value)) × LacksEquals name
    × (slice_index word 0 ≡ 45) × (slice_index word 1 ≡ 45)

-- the option that a word names, and the value that it has in the same word, if it has one there
abbrev pub Names : List ℕ → List ℕ → Option (List ℕ) → Type 0
Names word name (Some value) = JoinsLong word name value
Names word name None = (name ≡ word) × ((other value : List ℕ) → ¬ JoinsLong word other value)

-- the words after an option begin with none that can be its value
abbrev pub LacksValue : List Word → Type 0
LacksValue [] = Unit {0}
LacksValue (next ∷ rest) = IsOption next

-- the words begin with this part, and these words follow it
abbrev pub Begins : Options → List Word → Part → List Word → Type 0
Begins options words (Plain text) rest =
    (word : Word) × (words ≡ word ∷ rest) × (word.text ≡ text) × IsTrue options.plain × ¬ IsOption word
Begins options words (Stray text) rest =
    (word : Word) × (words ≡ word ∷ rest) × (word.text ≡ text) × IsTrue options.plain × IsOption word
    × ((name : Bor (List ℕ)) × (value : Option (List ℕ)) × Names word.text.now name.now value
    × (known_of options name.now ≡ None))
Begins options words (Flag row) rest =
    (word : Word) × (words ≡ word ∷ rest) × IsOption word × Names word.text.now word.text.now None
    × (known_of options word.text.now ≡ Some row) × (row.takes ≡ takes.Nothing)
Begins options words (Valued row value) rest =
    (word : Word) × IsOption word
    × (((words ≡ word ∷ rest) × ((name : Bor (List ℕ)) × Names word.text.now name.now (Some value.now)
    × (known_of options name.now ≡ Some row)) × ((row.takes ≡ takes.Value) ⊎ (row.takes ≡ takes.AfterEquals)))
    ⊎ ((next : Word) × (words ≡ word ∷ next ∷ rest) × (next.text ≡ value) × Names word.text.now word.text.now None
    × (known_of options word.text.now ≡ Some row) × (row.takes ≡ takes.Value) × ¬ IsOption next))

-- the part that these words begin with has so many of them
abbrev pub StandsFirst : Options → Word → List Word → Part → ℕ → Type 0
StandsFirst options word after part count =
    Begins options (word ∷ after) part (drop count (word ∷ after)) × (0 < count) × (count ≤ length (word ∷ after))

-- the first of the words is wrong
abbrev pub IsWrong : Options → List Word → Fault → Type 0
IsWrong options words (Unknown name) =
    (word : Word) × (rest : List Word) × (words ≡ word ∷ rest)
    × IsFalse options.plain
    × (((¬ IsOption word) × (name.now ≡ word.text.now))
    ⊎ (IsOption word × ((value : Option (List ℕ)) × Names word.text.now name.now value) × (known_of options name.now ≡ None)))
IsWrong options words (Missing name) =
    (word : Word) × (rest : List Word) × (words ≡ word ∷ rest) × IsOption word
    × Names word.text.now name.now None × ((row : Known) × (known_of options name.now ≡ Some row)
    × ((row.takes ≡ takes.AfterEquals) ⊎ ((row.takes ≡ takes.Value) × LacksValue rest)))
IsWrong options words (Unwanted name) =
    (word : Word) × (rest : List Word) × (words ≡ word ∷ rest) × IsOption word
    × ((value : List ℕ) × Names word.text.now name.now (Some value))
    × ((row : Known) × (known_of options name.now ≡ Some row) × (row.takes ≡ takes.Nothing))
IsWrong options words _ = ⊥

-- what a part sets
abbrev pub sets_by : Part → Sets
sets_by (Flag row) = row.sets
sets_by (Valued row value) = row.sets
sets_by _ = sets.Other

-- an option after which nothing is read
abbrev pub is_last : Sets → Bool
is_last (sets.Tells telling) = true
is_last _ = false

-- what is read of the words after a part
abbrev pub read_after : Part → List Word → List Word
read_after part rest = if is_last (sets_by part) then [] else rest

-- the words are these parts, and then the rest
abbrev pub PartsThen : Options → List Word → List Part → List Word → Type 0
PartsThen options words [] rest = words ≡ rest
PartsThen options words (part ∷ parts) rest =
    (after : List Word) × Begins options words part after × PartsThen options (read_after part after) parts rest

-- the words are these parts
abbrev pub AreParts : Options → List Word → List Part → Type 0
AreParts options words parts = PartsThen options words parts []

-- the first wrong word: those before it are parts
abbrev pub HasFault : Options → List Word → Fault → Type 0
HasFault options words fault =
    (parts : List Part) × (rest : List Word) × PartsThen options words parts rest × IsWrong options rest fault

-- why words are not read: want of memory, or something that is wrong with them
abbrev pub WrongOnly : (Fault → Type 0) → ReadError → Type 0
WrongOnly IsFault OutOfMemory = Unit {0}
WrongOnly IsFault (Wrong fault) = IsFault fault
