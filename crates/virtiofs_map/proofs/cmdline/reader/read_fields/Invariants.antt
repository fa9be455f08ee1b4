use Rattle.std.proofs.Common.{◌≡◌, ℕ, List, ◌++◌, length, chars}
use denote.Text.{Utf8}
use denote.Shadow.{shadow}
use Rattle.std.specs.List.{AllZip}
use Rattle.virtiofs_map.specs.Numeral.{IsNumeral}
use Rattle.virtiofs_map.specs.Separator.{split_at_each}
use Rattle.virtiofs_map.proofs.cmdline.reader.read_fields.Given as goal

-- the fields before the rest are those of the numbers so far
abbrev pub invariant-loop-field : goal.invariant-loop-field
invariant-loop-field g l =
    shadow (Utf8 l.rest)
    × ((done : List (List ℕ))
    × (split_at_each l.separator (chars l.fields) ≡ done ++ split_at_each l.separator (chars l.rest))
    × AllZip IsNumeral done l.numbers.items)

abbrev pub decreases-loop-field : goal.decreases-loop-field
decreases-loop-field g l = length l.rest
