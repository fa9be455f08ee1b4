-- What the parts of a command line have that is not known, and what of it is wrong.
use Rattle.std.specs.Prelude.{◌≡◌, ◌⊎◌, ◌==◌, ℕ, List, [], ◌∷◌, Bool, true, false, not, ◌||◌, ◌&&◌, Option, Some, None, MatchOption, map, flat_map, find, is_some, length, take, nat_le, nat_eq, bytes_eq, chars, codes, unwrap_or, encode_utf8_all, if◌then◌else◌}
use Rattle.std.specs.Borrow.{Bor}
use Rattle.std.specs.Char.{is_ascii_digit}
use Rattle.std.specs.List.{list_all, list_any, filter}
use Rattle.std.specs.Option.{option_map_or, option_or}
use Rattle.std.specs.Str.{str_eq_ignore_ascii_case}
use Rattle.strsim.specs.Edits.{levenshtein_row}
use Rattle.virtiofs_options.specs.Clusters.{stripped}
use Rattle.virtiofs_options.specs.GuestOptions.{after, is_set, split_at_commas, older_of}
use Rattle.virtiofs_options.specs.Lines.{concerns, is_daemon}
use Rattle.virtiofs_options.specs.Parts.{key_of, sets_by}
use Rattle.virtiofs_options.specs.Whole.{is_line, is_name, follows}
use Rattle.virtiofs_options.specs.declared.command.Part.{Part}
use Rattle.virtiofs_options.specs.declared.command.Part.TheVariants.{Plain, Flag, Valued, Stray}
use Rattle.virtiofs_options.specs.declared.fault.Fault.{Fault}
use Rattle.virtiofs_options.specs.declared.fault.Fault.TheVariants.{Miss, Whole, OlderUnknown, OlderRefused, Refused, AfterDashes, StrayWord, AtOdds}
use Rattle.virtiofs_options.specs.declared.options.Known.{Known}
use Rattle.virtiofs_options.specs.declared.options.Options.{Options}
use Rattle.virtiofs_options.specs.declared.options.Sets.{Sets}
use Rattle.virtiofs_options.specs.declared.options.Sets.TheVariants as sets
use Rattle.virtiofs_options.specs.declared.options.Values.{Values}
use Rattle.virtiofs_options.specs.declared.options.Values.TheVariants as values
use Rattle.virtiofs_options.specs.declared.strays.Place.{Place}
use Rattle.virtiofs_options.specs.declared.strays.Place.TheVariants as place
use Rattle.virtiofs_options.specs.declared.unknown.UnknownWord.{UnknownWord}

-- the first characters of a word, at most 60
abbrev pub front_of : List ℕ → List ℕ
front_of word = encode_utf8_all (take 60 (chars word))

-- at most two characters put in, taken out or changed make the name of the text, of which the first 60 characters count
abbrev pub is_near : List ℕ → List ℕ → Bool
is_near text name =
    nat_le (levenshtein_row nat_eq (chars (front_of text)) (chars name) (length (chars name))) 2

-- a near miss of an option for ids or names
abbrev pub misses : List ℕ → Known → Bool
misses text row = concerns row.sets && is_near text (key_of row.name.now)

abbrev pub is_near_one : List ℕ → List Known → Bool
is_near_one text known = list_any (misses text) known

-- the name is that of an option of the program's own
abbrev pub is_own : Options → List ℕ → Bool
is_own options name = is_name options.own.now name

-- what follows a `+`, if the text begins with it
abbrev pub unsigned : List ℕ → List ℕ
unsigned value = unwrap_or (stripped (codes "+") value) value

-- digits, after a `+` or none
abbrev pub are_digits : List ℕ → Bool
are_digits value = not (length (unsigned value) == 0) && list_all is_ascii_digit (unsigned value)

-- the daemon takes the value
abbrev pub allows : Values → List ℕ → Bool
allows values.Any value = true
allows values.NoEquals value = not (list_any (λ byte. byte == 61) value)
allows (values.Of texts) value = list_any (λ it. bytes_eq it.now value) texts.now
allows (values.AnyCase texts) value = list_any (λ it. str_eq_ignore_ascii_case it.now value) texts.now
allows values.Digits value = are_digits value
allows values.Tag value = not (length value == 0) && nat_le (length value) 36

-- a part of `-o` is wrong: it is not known, and a near miss of one for names, or the daemon refuses its value
abbrev pub is_bad : Options → List ℕ → Bool
is_bad options text =
    option_map_or (λ row. not (allows row.values (after row.name.now text))) (older_of options text)
    (is_near_one (key_of text) options.older.now)

-- a part of a command line is wrong
abbrev pub is_faulty : Options → Part → Bool
is_faulty options (Plain word) = is_line options word.now
is_faulty options (Flag row) = false
is_faulty options (Stray word) =
    is_line options word.now || is_own options (key_of word.now) || is_near_one (key_of word.now) options.known.now
is_faulty options (Valued row value) =
    follows options value.now || not (allows row.values value.now)
    || (is_set sets.Older row.sets && list_any (is_bad options) (split_at_commas value.now))

-- the first of parts of `-o` that is wrong
abbrev pub first_bad : Options → List (List ℕ) → Option (List ℕ)
first_bad options texts = find (is_bad options) texts

-- what is wrong with it
abbrev pub IsTextFault : Options → Option (List ℕ) → Fault → Type 0
IsTextFault options first (OlderUnknown text) =
    (first ≡ Some text.now) × (is_some (older_of options text.now) ≡ false)
IsTextFault options first (OlderRefused text) =
    (first ≡ Some text.now) × (is_some (older_of options text.now) ≡ true)
IsTextFault options first _ = ⊥

abbrev pub HasTextFault : Options → Option (List ℕ) → Option Fault → Type 0
HasTextFault options first fault = MatchOption fault (first ≡ None) (IsTextFault options first)

-- an option that has its value, and parts of `-o` in it
abbrev pub IsOlderFault : Options → Part → Fault → Type 0
IsOlderFault options part fault =
    (row : Known) × (value : Bor (List ℕ)) × (part ≡ Valued row value) × (follows options value.now ≡ false)
    × (allows row.values value.now ≡ true) × (is_set sets.Older row.sets ≡ true)
    × IsTextFault options (first_bad options (split_at_commas value.now)) fault

-- what is wrong with a part
abbrev pub IsPartFault : Options → Part → Fault → Type 0
IsPartFault options part (Whole text) =
    ((part ≡ Plain text) × (is_line options text.now ≡ true))
    ⊎ ((part ≡ Stray text) × (is_line options text.now ≡ true))
    ⊎ ((row : Known) × (part ≡ Valued row text) × (follows options text.now ≡ true))
IsPartFault options part (Miss name) =
    (word : Bor (List ℕ)) × (part ≡ Stray word) × (is_line options word.now ≡ false)
    × (is_own options (key_of word.now) ≡ false) × (is_near_one (key_of word.now) options.known.now ≡ true)
    × (name.now ≡ key_of word.now)
IsPartFault options part (AfterDashes name) =
    (word : Bor (List ℕ)) × (part ≡ Stray word) × (is_line options word.now ≡ false)
    × (is_own options (key_of word.now) ≡ true) × (name.now ≡ key_of word.now)
IsPartFault options part (Refused name value) =
    (row : Known) × (part ≡ Valued row value) × (follows options value.now ≡ false) × (name ≡ row.name)
    × (allows row.values value.now ≡ false)
IsPartFault options part (OlderUnknown text) = IsOlderFault options part (OlderUnknown text)
IsPartFault options part (OlderRefused text) = IsOlderFault options part (OlderRefused text)
IsPartFault options part _ = ⊥

-- what is wrong with the first part that is wrong
abbrev pub HasPartFault : Options → List Part → Fault → Type 0
HasPartFault options parts fault =
    (part : Part) × (find (is_faulty options) parts ≡ Some part) × IsPartFault options part fault

-- what is wrong with a part, if something is
abbrev pub FaultsIn : Options → Part → Option Fault → Type 0
FaultsIn options part fault =
    MatchOption fault (is_faulty options part ≡ false) (λ it. (is_faulty options part ≡ true) × IsPartFault options part it)

-- where the next part stands: after the daemon's word or an option no word is right that is no option, but one right
-- after an option that is not known, whose value it may be; the daemon's word may be there twice, as in `-u virtiofsd virtiofsd`
abbrev pub next_place : Place → Part → Place
next_place place.Front (Plain word) = if is_daemon word.now then place.Named else place.Front
next_place place.Named (Plain word) = if is_daemon word.now then place.Named else place.Line
next_place at (Stray word) = place.AfterUnknown
next_place at _ = place.Line

-- a word that is no option, where none is right
abbrev pub stray_at : Place → Part → Option (Bor (List ℕ))
stray_at place.Line (Plain word) = Some word
stray_at place.Named (Plain word) = if is_daemon word.now then None else Some word
stray_at at _ = None

-- the first such word
abbrev pub stray_in : Place → List Part → Option (Bor (List ℕ))
stray_in at [] = None
stray_in at (part ∷ parts) = option_or (stray_at at part) (stray_in (next_place at part) parts)

-- two options of the socket do not go together
abbrev pub clash : Sets → Sets → Bool
clash sets.Fd sets.Socket = true
clash sets.Fd sets.Group = true
clash sets.Group sets.Prints = true
clash _ _ = false

abbrev pub clashes : Part → List Part → Bool
clashes part parts = list_any (λ other. clash (sets_by part) (sets_by other)) parts

-- there are two such options
abbrev pub are_at_odds : List Part → Bool
are_at_odds parts = list_any (λ part. clashes part parts) parts

-- parts of which none is wrong
abbrev pub AreRight : Options → List Part → Type 0
AreRight options parts =
    (find (is_faulty options) parts ≡ None) × (stray_in place.Front parts ≡ None) × (are_at_odds parts ≡ false)

-- what is wrong with parts: the first that is wrong, or a word where none is right, or options that do not go together
abbrev pub IsPartsFault : Options → List Part → Fault → Type 0
IsPartsFault options parts fault =
    HasPartFault options parts fault
    ⊎ ((word : Bor (List ℕ)) × (fault ≡ StrayWord word) × (find (is_faulty options) parts ≡ None)
    × (stray_in place.Front parts ≡ Some word))
    ⊎ ((fault ≡ AtOdds) × (find (is_faulty options) parts ≡ None) × (stray_in place.Front parts ≡ None)
    × (are_at_odds parts ≡ true))

-- an unknown word, as plain data: the number of its guest, whether it is a part of `-o`, and the text
abbrev pub told : UnknownWord → ℕ × Bool × List ℕ
told it = (it.guest, it.is_older, it.word.now)

-- those parts of a `-o` that are not known
abbrev pub unknown_words : Options → ℕ → List (List ℕ) → List (ℕ × Bool × List ℕ)
unknown_words options guest texts =
    map (λ text. (guest, true, text)) (filter (λ text. not (is_some (older_of options text))) texts)

-- what of a part is not known: an option without its value, or parts of `-o`
abbrev pub unknown_in : Options → ℕ → Part → List (ℕ × Bool × List ℕ)
unknown_in options guest (Stray word) = (guest, false, key_of word.now) ∷ []
unknown_in options guest (Valued row value) =
    if is_set sets.Older row.sets then unknown_words options guest (split_at_commas value.now) else []
unknown_in options guest _ = []

-- what is not known in the parts of the command line of a guest, in their order
abbrev pub unknown_of : Options → ℕ → List Part → List (ℕ × Bool × List ℕ)
unknown_of options guest parts = flat_map (unknown_in options guest) parts
