-- Lines that say ranges.
use Rattle.std.proofs.Common.{arith, ◌≡◌, ℕ, List, [], ◌∷◌, ◌++◌, sym, ◌∙◌}
use Rattle.virtiofs_map.specs.Separator.{Lacks}
use Rattle.virtiofs_map.specs.declared.idmap.UidMap.{UidMap}
use Rattle.virtiofs_host.specs.IdMapText.{SaysRange, BeginsRange}
use Rattle.virtiofs_host.proofs.CutLemmas.{cut_one}
use Rattle.virtiofs_host.proofs.SequenceLemmas.{IsRead, read_all}

-- a range of three numbers
abbrev made : ℕ → ℕ → ℕ → UidMap
made inside outside count = record { inside_uid = inside; outside_uid = outside; count = count }

-- a line says one range
pub SaysRange-one : (line : List ℕ) (a b : UidMap) → SaysRange line a → SaysRange line b → a ≡ b
SaysRange-one line a b says also = grind (arith, made)

not_empty : (line rest : List ℕ) → [] ≡ line ++ 10 ∷ rest → ⊥
not_empty [] rest same = cc
not_empty (c ∷ line) rest same = cc

-- a text begins with one range
pub BeginsRange-read : IsRead BeginsRange
BeginsRange-read = grind (arith, not_empty, cut_one, SaysRange-one)

-- nor does one whose first line says none
pub no_range : (text line after : List ℕ) → text ≡ line ++ 10 ∷ after → Lacks 10 line
    → ((range : UidMap) → SaysRange line range → ⊥) → (range : UidMap) (rest : List ℕ) → BeginsRange text range rest → ⊥
no_range text line after whole lacks none range rest begins =
    let cut = cut_one 10 begins.line line rest after (sym begins.whole ∙ whole) begins.one_line lacks in
    none range (grind arith)

-- ranges that are read one after another
pub ruleset ranges_read = (read_all, BeginsRange-read)
