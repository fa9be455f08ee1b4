-- Texts that hold more than one word of a command line.
use Rattle.std.specs.Prelude.{ℕ, ◌+◌, ◌==◌, List, Bool, false, ◌||◌, position, take, drop, bytes_eq}
use Rattle.std.specs.List.{list_any, slice_split}
use Rattle.std.specs.Option.{option_map_or}
use Rattle.virtiofs_options.specs.Lines.{is_daemon}
use Rattle.virtiofs_options.specs.Parts.{key_of}
use Rattle.virtiofs_options.specs.declared.options.Known.{Known}
use Rattle.virtiofs_options.specs.declared.options.Options.{Options}

-- a blank, a tab or an end of a line
abbrev pub is_blank : ℕ → Bool
is_blank byte = (byte == 32) || (byte == 9) || (byte == 10) || (byte == 13)

-- the name of one of these options
abbrev pub is_name : List Known → List ℕ → Bool
is_name known text = list_any (λ it. bytes_eq it.name.now text) known

-- an option that is known, alone or with `=` and a value
abbrev pub is_known : Options → List ℕ → Bool
is_known options text = is_name options.known.now (key_of text)

-- the daemon's word, or an option without `=`
abbrev pub begins_line : Options → List ℕ → Bool
begins_line options text = is_daemon text || is_name options.known.now text

-- one of the words in the text is an option that is known
abbrev pub holds_option : Options → List ℕ → Bool
holds_option options text = list_any (is_known options) (slice_split is_blank text)

-- a word that holds a command line: what stands before its first blank begins one, or an option follows
abbrev pub is_line : Options → List ℕ → Bool
is_line options word =
    option_map_or (λ place. begins_line options (take place word) || holds_option options (drop (place + 1) word))
    (position is_blank word) false

-- a value in which an option follows a blank
abbrev pub follows : Options → List ℕ → Bool
follows options value =
    option_map_or (λ place. holds_option options (drop (place + 1) value)) (position is_blank value) false
