use Rattle.std.proofs.Common.{◌≡◌, List, ℕ, take, string_bytes}
use Rattle.std.specs.List.{AllZip, concat}
use Rattle.virtiofs_mapcheck.specs.IdsAnswer.{IsLine}
use Rattle.virtiofs_mapcheck.proofs.ids.lines_of.Given as goal

-- a line for each query so far
abbrev pub invariant-loop-query : goal.invariant-loop-query
invariant-loop-query g l =
    (lines : List (List ℕ)) × AllZip (IsLine l.map) (take l.query-index l.queries) lines
    × (string_bytes l.text ≡ concat lines)
