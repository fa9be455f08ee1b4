-- What is left of a text that is cut at a byte. Only private functions cite these definitions.
use Rattle.std.specs.Prelude.{ℕ, ◌+◌, List, [], length, Option, None, Some}
use Rattle.std.specs.Borrow.{Bor}
use Rattle.virtiofs_map.specs.Separator.{split_at_each}
use Rattle.virtiofs_host.specs.IdMapText.{spaced_words}

-- the parts of what is left, between the bytes c
abbrev pub parts_left : ℕ → Option (Bor (List ℕ)) → List (List ℕ)
parts_left c None = []
parts_left c (Some rest) = split_at_each c rest.now

-- how many bytes and cuts are left
abbrev pub bytes_left : Option (Bor (List ℕ)) → ℕ
bytes_left None = 0
bytes_left (Some rest) = length rest.now + 1

-- the words of what is left of a line of numbers
abbrev pub words_left : Option (Bor (List ℕ)) → List (List ℕ)
words_left None = []
words_left (Some line) = spaced_words line.now
