-- Short options that are joined in one word.
use Rattle.std.specs.Prelude.{ℕ, ◌==◌, List, [], ◌∷◌, Bool, true, false, not, ◌&&◌, Option, Some, None, option_map, unwrap_or, flat_map, drop, length, nat_eq, codes, if◌then◌else◌}
use Rattle.std.specs.Borrow.{Bor}
use Rattle.std.specs.List.{starts_with}
use Rattle.std.specs.Option.{option_and_then}
use Rattle.virtiofs_options.specs.Parts.{is_last, is_option, known_of}
use Rattle.virtiofs_options.specs.declared.options.Known.{Known}
use Rattle.virtiofs_options.specs.declared.options.Options.{Options}
use Rattle.virtiofs_options.specs.declared.options.Takes.{Takes}
use Rattle.virtiofs_options.specs.declared.options.Takes.TheVariants as takes
use Rattle.virtiofs_options.specs.declared.command.Word.{Word}

-- what a text has after another that it begins with
abbrev pub stripped : List ℕ → List ℕ → Option (List ℕ)
stripped begin text = if starts_with nat_eq text begin then Some (drop (length begin) text) else None

-- a word as plain data: its text, and whether it is joined to the letter of the option before it
abbrev pub plain : Word → List ℕ × Bool
plain word = (word.text.now, word.is_joined)

-- the option that a letter names
abbrev pub short_of : Options → ℕ → Option Known
short_of options letter = known_of options (45 ∷ letter ∷ [])

-- what follows the letter of an option
abbrev pub after_letter : List ℕ → List ℕ → Option (List ℕ)
after_letter name left = option_and_then (λ letter. stripped letter left) (stripped (codes "-") name)

-- the value that follows the letter of an option, if there is one: a `=` before it is no part of it
abbrev pub value_words : List ℕ → List (List ℕ × Bool)
value_words value = if length value == 0 then [] else (unwrap_or (stripped (codes "=") value) value, true) ∷ []

-- an option without a value
abbrev pub is_bare : Takes → Bool
is_bare takes.Nothing = true
is_bare _ = false

-- the words of a letter and of what follows it, which stand for `more` if they are options
abbrev pub joined : Option Known → List ℕ → Option (List (List ℕ × Bool)) → Option (List (List ℕ × Bool))
joined None rest more = None
joined (Some row) rest more =
    if not (is_bare row.takes) then Some ((row.name.now, false) ∷ value_words rest)
    else (if is_last row.sets then Some ((row.name.now, false) ∷ []) else option_map (λ words. (row.name.now, false) ∷ words) more)

-- the words that letters stand for, if they are those of short options
abbrev pub cluster : Options → List ℕ → Option (List (List ℕ × Bool))
cluster options [] = Some []
cluster options (letter ∷ rest) = joined (short_of options letter) rest (cluster options rest)

-- one `-`, and letters after it
abbrev pub is_cluster : List ℕ → Bool
is_cluster word = is_option word && not (starts_with nat_eq word (codes "--"))

-- the words that a word stands for, if it is joined short options
abbrev pub joined_in : Options → List ℕ → Option (List (List ℕ × Bool))
joined_in options word =
    if is_cluster word then option_and_then (λ letters. cluster options letters) (stripped (codes "-") word) else None

-- the words that a word stands for: itself, but for joined short options
abbrev pub words_in : Options → List ℕ → List (List ℕ × Bool)
words_in options word = unwrap_or (joined_in options word) ((word, false) ∷ [])

-- all of them
abbrev pub split_words : Options → List (Bor (List ℕ)) → List (List ℕ × Bool)
split_words options words = flat_map (λ word. words_in options word.now) words
