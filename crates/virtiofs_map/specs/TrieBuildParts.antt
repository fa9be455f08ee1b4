-- What holds while a trie of patterns is built. Only private functions cite these definitions.
use Rattle.std.specs.Prelude.{◌≡◌, ◌≢◌, ◌⊎◌, ℕ, ◌+◌, ◌-◌, ◌<◌, ◌≤◌, Bool, false, List, [], ◌++◌, length, take, drop, All}
use Rattle.std.specs.Prelude.{suc, true, map, Some, slice_get, slice_index, slice_index_or, sum_by, ◌==◌, ◌&&◌, not, if◌then◌else◌}
use Rattle.virtiofs_map.specs.KeyedParts.{AreBytes, word_of}
use Rattle.virtiofs_map.specs.NodeParts.{no_answer, AreRowsOf}
use Rattle.virtiofs_map.specs.Names.{begins}
use Rattle.virtiofs_map.specs.PatternTrie.{nodes_in_all, places_below}
use Rattle.virtiofs_map.specs.declared.xattrmap.trie.node.Node.{Node}
use Rattle.virtiofs_map.specs.declared.xattrmap.trie.build.PatternRange.{PatternRange}
use Rattle.virtiofs_map.specs.declared.xattrmap.trie.patterns.Pattern.{Pattern}

-- ---- patterns

-- a pattern ends at or before that byte of all bytes, and has bytes, but no zero; its numbers are those of its first
-- bytes and of the next ones
pub record IsReady (most : ℕ) (one : Pattern) : Type 0 where
  pub within : one.start + length one.bytes.now ≤ most
  pub full : All (λ byte. byte ≢ 0) one.bytes.now
  pub small : AreBytes one.bytes.now
  pub first : one.first ≡ word_of one.bytes.now
  pub second : one.second ≡ word_of (drop 8 one.bytes.now)

abbrev pub texts_of : List Pattern → List (List ℕ)
texts_of patterns = map (λ one. one.bytes.now) patterns

-- the pattern at a place; past all of them, one without bytes
abbrev pub pattern_at : List Pattern → ℕ → Pattern
pattern_at patterns at =
    slice_index_or patterns at
    (record { bytes = record { ref_ptr = (0, 0); now = [] }; start = 0; answer = no_answer; first = 0; second = 0 })

-- its bytes
abbrev pub text : List Pattern → ℕ → List ℕ
text patterns at = (pattern_at patterns at).bytes.now

-- patterns of which a trie can be made: those that share a front stand in the order of their next bytes, first those
-- that have ended
pub record AreReady (most : ℕ) (patterns : List Pattern) : Type 0 where
  pub each : All (IsReady most) patterns
  pub rising : (i j depth : ℕ) → i ≤ j → j < length patterns
      → take depth (text patterns i) ≡ take depth (text patterns j)
      → slice_index (text patterns i) depth ≤ slice_index (text patterns j) depth

-- ---- the least answer

-- the value is the least answer of those patterns that are chosen, or that of no rule if none is chosen
pub record IsLeast (patterns : List Pattern) (chosen : ℕ → Type 0) (value : ℕ) : Type 0 where
  pub top : value ≤ no_answer
  pub below : (i : ℕ) → chosen i → value ≤ (pattern_at patterns i).answer
  pub met : (value ≡ no_answer) ⊎ ((i : ℕ) × chosen i × ((pattern_at patterns i).answer ≡ value))

-- ---- ranges

-- the path of a range
abbrev pub path_of_range : List Pattern → PatternRange → List ℕ
path_of_range patterns range = take range.depth (text patterns range.low)

-- the path of a range starts with the pattern at that place
abbrev pub IsUpto : List Pattern → PatternRange → ℕ → Type 0
IsUpto patterns range i = (i < length patterns) × (begins (text patterns i) (path_of_range patterns range) ≡ true)

-- and is longer
abbrev pub IsInside : List Pattern → PatternRange → ℕ → Type 0
IsInside patterns range i = IsUpto patterns range i × (length (text patterns i) < range.depth)

-- a range has exactly the patterns that start with its path (the bytes that lead to it), and its answer is the
-- least of those of the shorter patterns that its path starts with
pub record IsPatternRange (patterns : List Pattern) (range : PatternRange) : Type 0 where
  pub some : (range.depth ≡ 0) ⊎ (range.low < range.high)
  pub rising : range.low ≤ range.high
  pub within : range.high ≤ length patterns
  pub label : range.length ≤ range.depth
  pub size : range.length < 256
  pub long : (i : ℕ) → range.low ≤ i → i < range.high → range.depth ≤ length (text patterns i)
  pub same : (i : ℕ) → range.low ≤ i → i < range.high
      → take range.depth (text patterns i) ≡ take range.depth (text patterns range.low)
  pub whole : (i : ℕ) → i < length patterns
      → take range.depth (text patterns i) ≡ take range.depth (text patterns range.low) → (range.low ≤ i) × (i < range.high)
  pub least : IsLeast patterns (IsInside patterns range) range.answer

-- a hole: an unused place between children, for a byte that leads nowhere
abbrev pub hole : PatternRange
hole = record { low = 0; high = 0; depth = 1; length = 0; answer = no_answer; first_byte = 0 }

-- the place has a range or is a hole
abbrev pub IsRangeOrHole : List Pattern → PatternRange → Type 0
IsRangeOrHole patterns range = IsPatternRange patterns range ⊎ (range ≡ hole)

-- how many places are below a range; none below a hole
unfoldable pub below : List Pattern → PatternRange → ℕ
below patterns range =
    if (range.low == range.high) && not (range.depth == 0)
    then 0
    else places_below (suc (sum_by length (texts_of patterns)) - range.depth) 0 (texts_of patterns)
    (path_of_range patterns range)

-- ---- children

-- the byte with which the pattern at a place goes on after the path of a range; 0 where it ends there
abbrev pub next_of : List Pattern → PatternRange → ℕ → ℕ
next_of patterns range i = slice_index (text patterns i) range.depth

-- the patterns of a range go on after its path from that place on, and those before it have ended
pub record GoOnFrom (patterns : List Pattern) (range : PatternRange) (from : ℕ) : Type 0 where
  pub low : range.low ≤ from
  pub some : from < range.high
  pub ended : (i : ℕ) → range.low ≤ i → i < from → length (text patterns i) ≡ range.depth
  pub longer : range.depth < length (text patterns from)

-- the patterns of a range from one place to another are all those that go on with the byte of the first of them
pub record IsGroup (patterns : List Pattern) (range : PatternRange) (low high : ℕ) : Type 0 where
  pub from : range.low ≤ low
  pub some : low < high
  pub upto : high ≤ range.high
  pub bytes : (i : ℕ) → low ≤ i → i < high → next_of patterns range i ≡ next_of patterns range low
  pub all : (i : ℕ) → range.low ≤ i → i < range.high → next_of patterns range i ≡ next_of patterns range low
      → (low ≤ i) × (i < high)

-- a child has such patterns of a range; its label is as long as they share bytes, but no longer than a label can be
pub record IsKid (patterns : List Pattern) (range kid : PatternRange) : Type 0 where
  pub group : IsGroup patterns range kid.low kid.high
  pub first_byte : kid.first_byte ≡ next_of patterns range kid.low
  pub depth : kid.depth ≡ range.depth + 1 + kid.length
  pub size : kid.length < 256
  pub long : kid.depth ≤ length (text patterns kid.low)
  pub same : take (range.depth + 1) (text patterns kid.low) ≡ take (range.depth + 1) (text patterns (kid.high - 1))
      → take kid.depth (text patterns kid.low) ≡ take kid.depth (text patterns (kid.high - 1))
  pub stops : kid.length < 255 → kid.depth < length (text patterns kid.low)
      → kid.depth < length (text patterns (kid.high - 1))
      → slice_index (text patterns kid.low) kid.depth ≢ slice_index (text patterns (kid.high - 1)) kid.depth

-- the place has a child of a range or is a hole
abbrev pub IsKidOrHole : List Pattern → PatternRange → PatternRange → Type 0
IsKidOrHole patterns range kid = (IsPatternRange patterns kid × IsKid patterns range kid) ⊎ (kid ≡ hole)

-- the place at an index; past all of them a hole
abbrev pub range_at : List PatternRange → ℕ → PatternRange
range_at ranges at = slice_index_or ranges at hole

-- the places have the children of a range for its patterns before one, and holes; where the children are not sparse,
-- each stands as far behind the first place as its byte behind the lowest
pub record AreKids (patterns : List Pattern) (kids : List PatternRange) (range : PatternRange) (lowest : ℕ)
    (is_sparse : Bool) (upto : ℕ) : Type 0 where
  pub each : All (IsKidOrHole patterns range) kids
  pub placed : is_sparse ≡ false → (at : ℕ) → at < length kids → (range_at kids at).first_byte ≢ 0
      → (range_at kids at).first_byte ≡ lowest + at
  pub complete : (i : ℕ) → range.low ≤ i → i < upto → range.depth < length (text patterns i)
      → (at : ℕ) × (at < length kids) × ((range_at kids at).first_byte ≡ next_of patterns range i)

-- the places are as many as are below a range, with those that are below them
abbrev pub AreAllBelow : List Pattern → List PatternRange → PatternRange → Type 0
AreAllBelow patterns kids range = length kids + sum_by (below patterns) kids ≡ below patterns range

-- the children of a range were appended to the places
pub record AreAdded (patterns : List Pattern) (old new : List PatternRange) (range : PatternRange) (lowest : ℕ)
    (is_sparse : Bool) : Type 0 where
  pub kids : List PatternRange
  pub are : new ≡ old ++ kids
  pub all : AreKids patterns kids range lowest is_sparse range.high
  pub few : lowest + length kids ≤ 256
  pub counted : AreAllBelow patterns kids range

-- ---- nodes

-- the node of a range, which has these children: it names the least answer of the patterns that begin the path of the
-- range
pub record IsBuilt (patterns : List Pattern) (kids : List PatternRange) (range : PatternRange) (node : Node) : Type
    0 where
  pub answer : node.answer ≤ no_answer
  pub first_byte : node.first_byte ≡ range.first_byte
  pub size : node.length ≡ range.length
  pub label : range.low < range.high → node.label + range.length ≡ (pattern_at patterns range.low).start + range.depth
  pub bare : range.low ≡ range.high → node.label ≡ 0
  pub width : node.width ≡ length kids
  pub low_byte : 1 ≤ node.low_byte
  pub high : node.low_byte + node.width ≤ 256
  pub least : IsPatternRange patterns range → IsLeast patterns (IsUpto patterns range) node.answer
  pub all : AreKids patterns kids range node.low_byte node.is_sparse range.high

-- the places have ranges or are holes, and the first ones have nodes, the very first that of the root
pub record AreBuilt (patterns : List Pattern) (ranges : List PatternRange) (nodes : List Node) : Type 0 where
  pub places : All (IsRangeOrHole patterns) ranges
  pub counted : length nodes ≤ length ranges
  pub some : 0 < length ranges
  pub root : (range_at ranges 0).depth ≡ 0
  pub within : (at : ℕ) (node : Node) → slice_get nodes at ≡ Some node → node.base + node.width ≤ length ranges
  pub each : (at : ℕ) (node : Node) → slice_get nodes at ≡ Some node
      → IsBuilt patterns (take node.width (drop node.base ranges)) (range_at ranges at) node

-- the first places have nodes, so many, the rows are those of these, and with what is below the others the places are
-- as many as nodes are to be in all
pub record AreMade (patterns : List Pattern) (ranges : List PatternRange) (rows : List ℕ) (first count : ℕ) : Type
    0 where
  pub nodes : List Node
  pub counted : count ≡ length nodes
  pub built : AreBuilt patterns ranges nodes
  pub total : length ranges + sum_by (below patterns) ranges
      ≡ nodes_in_all (texts_of patterns) + sum_by (below patterns) (take count ranges)
  pub rows_of : AreRowsOf rows first nodes

-- the node of a range was made, and its children were appended to the places
pub record IsExpanded (patterns : List Pattern) (old new : List PatternRange) (range : PatternRange) (node : Node) : Type 0 where
  pub kids : List PatternRange
  pub are : new ≡ old ++ kids
  pub base : node.base ≡ length old
  pub built : IsBuilt patterns kids range node
  pub counted : AreAllBelow patterns kids range
