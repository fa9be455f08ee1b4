-- How many nodes the trie of some texts has. A text is bytes, none of them zero.
use Rattle.std.specs.Prelude.{ℕ, zero, suc, ◌+◌, ◌-◌, ◌*◌, nat_lt, nat_eq, Bool, ◌&&◌, not, if◌then◌else◌, List, []}
use Rattle.std.specs.Prelude.{◌∷◌, ◌++◌, length, filter, sum_by}
use Rattle.virtiofs_map.specs.Names.{begins}
use Rattle.std.specs.List.{list_any, range_with_len}

-- ---- paths

-- some text begins with the path
unfoldable pub leads : List (List ℕ) → List ℕ → Bool
leads texts path = list_any (begins path) texts

-- some text is the path
unfoldable pub ends : List (List ℕ) → List ℕ → Bool
ends texts path = list_any (λ text. begins path text && nat_eq (length text) (length path)) texts

-- the bytes that lead on from the path, the lowest first
unfoldable pub next_bytes : List (List ℕ) → List ℕ → List ℕ
next_bytes texts path = filter (λ byte. leads texts (path ++ byte ∷ [])) (range_with_len 1 255)

-- ---- places of children

-- the last of some bytes
abbrev pub last_byte : ℕ → List ℕ → ℕ
last_byte byte [] = byte
last_byte byte (next ∷ bytes) = last_byte next bytes

-- how many bytes there are from the lowest of them to the highest
abbrev pub span : ℕ → List ℕ → ℕ
span low bytes = last_byte low bytes + 1 - low

-- bytes so far apart that their children stand side by side: more than 4 from the lowest to the highest, and 2 more for
-- each of them
abbrev pub are_sparse : List ℕ → Bool
are_sparse [] = nat_lt 1 0
are_sparse (low ∷ bytes) = nat_lt (2 * length (low ∷ bytes) + 4) (span low bytes)

-- how many places their children have: one for each, and where they are not sparse one for each byte between them too
unfoldable pub places : List ℕ → ℕ
places [] = 0
places (low ∷ bytes) = if are_sparse (low ∷ bytes) then length (low ∷ bytes) else span low bytes

-- ---- nodes

-- the most bytes of a label
unfoldable pub longest_label : ℕ
longest_label = 255

-- a label that may have so many bytes more goes on after the path: no text ends there, and one byte leads on
unfoldable pub goes_on : ℕ → List (List ℕ) → List ℕ → Bool
goes_on room texts path = nat_lt 0 room && not (ends texts path) && nat_eq (length (next_bytes texts path)) 1

-- how many places are below a path, in so many levels of bytes, where a label may go on for so many bytes
unfoldable pub places_below : ℕ → ℕ → List (List ℕ) → List ℕ → ℕ
places_below zero room texts path = 0
places_below (suc levels) room texts path =
    if goes_on room texts path
    then sum_by (λ byte. places_below levels (room - 1) texts (path ++ byte ∷ [])) (next_bytes texts path)
    else places (next_bytes texts path)
    + sum_by (λ byte. places_below levels longest_label texts (path ++ byte ∷ [])) (next_bytes texts path)

-- how many nodes and holes the trie has: the root, and what is below it
unfoldable pub nodes_in_all : List (List ℕ) → ℕ
nodes_in_all texts = 1 + places_below (suc (sum_by length texts)) 0 texts []
