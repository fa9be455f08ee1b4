-- A trie of patterns whose pieces have labels. Only private functions, the invariant of `XattrMap` and `NamesImage`
-- cite these definitions.
use Rattle.std.specs.Prelude.{◌≡◌, ◌≢◌, ◌⊎◌, ℕ, ◌+◌, ◌-◌, ◌*◌, ◌<◌, ◌≤◌, Bool, true, false, if◌then◌else◌, List, []}
use Rattle.std.specs.Prelude.{◌∷◌, ◌++◌, length, take, drop, filter, map, Contains, All, Option, Some, slice_get}
use Rattle.std.specs.List.{flat_map}
use Rattle.std.specs.List.Sorted.{IsPermutation}
use Rattle.std.specs.Option.{option_map_or}
use Rattle.virtiofs_map.specs.FirstRule.{acts, pattern, shared}
use Rattle.virtiofs_map.specs.Names.{begins, first}
use Rattle.virtiofs_map.specs.PatternTrie.{nodes_in_all}
use Rattle.virtiofs_map.specs.Rule.{MappingRule, HasNoZero, type_number}
use Rattle.virtiofs_map.specs.Steps.{count_after}
use Rattle.virtiofs_map.specs.LeU64Parts.{le_u64_bytes}
use Rattle.virtiofs_map.specs.declared.xattrmap.trie.node.Node.{Node}
use Rattle.virtiofs_map.specs.declared.xattrmap.trie.patterns.Pattern.{Pattern}
use Rattle.virtiofs_map.specs.declared.xattrmap.scopes.Side.{Side}
use Rattle.virtiofs_map.specs.declared.xattrmap.spans.Span.{Span}

-- ---- what a node answers

-- the number that stands for no rule
abbrev pub no_answer : ℕ
no_answer = 281474976710655

-- the number of the type of the rule at a place
abbrev pub type_at : List MappingRule → ℕ → ℕ
type_at rules at = option_map_or (λ rule. type_number rule.kind) (slice_get rules at) 0

-- the answer that stands for a rule: four times its place, and the number of its type
abbrev pub answer_for : List MappingRule → Option ℕ → ℕ
answer_for rules place = option_map_or (λ at. 4 * at + type_at rules at) place no_answer

-- the answer that stands for the first rule that fits a name of that side
abbrev pub answer_of : Side → List MappingRule → List ℕ → ℕ
answer_of side rules name = answer_for rules (first side rules name)

-- so few rules that each has an answer
abbrev pub AreFew : List MappingRule → Type 0
AreFew rules = length rules < 70368744177663

-- ---- nodes

-- the label of a node, after the byte that leads to it
abbrev pub label_of : List ℕ → Node → List ℕ
label_of bytes node = take node.length (drop node.label bytes)

-- the place is not a hole: it is the root, or a byte leads to it
abbrev pub IsReal : ℕ → Node → Type 0
IsReal at node = (at ≡ 0) ⊎ (node.first_byte ≢ 0)

-- the byte leads from the parent to this node, at this place
pub record IsChild (nodes : List Node) (parent : Node) (byte at : ℕ) (child : Node) : Type 0 where
  pub from : parent.base ≤ at
  pub below : at < parent.base + parent.width
  pub here : slice_get nodes at ≡ Some child
  pub first_byte : child.first_byte ≡ byte
  pub real : byte ≢ 0

-- children that are not sparse stand as far behind the first place as their bytes behind the lowest byte; between
-- them are holes
pub record AreInSlots (nodes : List Node) (parent : Node) : Type 0 where
  pub low_byte : 1 ≤ parent.low_byte
  pub high : parent.low_byte + parent.width ≤ 256
  pub slots : (k : ℕ) (child : Node) → k < parent.width → slice_get nodes (parent.base + k) ≡ Some child
      → child.first_byte ≢ 0 → child.first_byte ≡ parent.low_byte + k

-- the bytes begin the pattern of a rule that acts on the side
pub record BeginsPattern (side : Side) (rules : List MappingRule) (front : List ℕ) : Type 0 where
  pub rule : MappingRule
  pub inside : Contains rules rule
  pub acting : acts side rule ≡ true
  pub starts : begins front (pattern side rule) ≡ true

-- a node stands for its path: the bytes that lead to it from the root
pub record IsNode (side : Side) (rules : List MappingRule) (nodes : List Node) (bytes : List ℕ)
    (path : ℕ → List ℕ) (at : ℕ) (node : Node) : Type 0 where
  pub answers : node.answer ≡ answer_of side rules (path at)
  -- the places of its children are places of nodes, and its label stands among the bytes
  pub within : node.base + node.width ≤ length nodes
  pub label : node.label + node.length ≤ length bytes
  pub placed : node.is_sparse ≡ false → 1 ≤ node.width → AreInSlots nodes node
  -- a child's path is longer by the byte that leads to it and by its label
  pub paths : (byte next : ℕ) (child : Node) → IsChild nodes node byte next child
      → path next ≡ path at ++ byte ∷ label_of bytes child
  -- a pattern that starts with the path and the byte starts with the whole path of the child
  pub whole : (byte next : ℕ) (child : Node) (rule : MappingRule) → IsChild nodes node byte next child
      → Contains rules rule → acts side rule ≡ true → begins (path at ++ byte ∷ []) (pattern side rule) ≡ true
      → begins (path next) (pattern side rule) ≡ true
  -- if a pattern starts with the path and a byte, there is a child for that byte
  pub complete : (byte : ℕ) (rule : MappingRule)
      → Contains rules rule → acts side rule ≡ true → begins (path at ++ byte ∷ []) (pattern side rule) ≡ true
      → (next : ℕ) × (child : Node) × IsChild nodes node byte next child
  -- the path is empty, or the pattern of some rule starts with it
  pub front : (path at ≡ []) ⊎ BeginsPattern side rules (path at)

-- the nodes are a trie of the patterns of that side, whose labels stand among the bytes; the root is the first
pub record IsTrie (side : Side) (rules : List MappingRule) (nodes : List Node) (bytes : List ℕ) : Type 0 where
  pub path : ℕ → List ℕ
  pub root : 0 < length nodes
  pub begun : path 0 ≡ []
  pub each : (at : ℕ) (node : Node) → slice_get nodes at ≡ Some node → IsReal at node
      → IsNode side rules nodes bytes path at node

-- ---- patterns, before a trie is made of them

-- where the patterns of a rule stand among the bytes: the key, and right after it the prepend
pub record IsSpan (bytes : List ℕ) (rule : MappingRule) (span : Span) : Type 0 where
  pub key : take (span.prepend - span.key) (drop span.key bytes) ≡ rule.key
  pub prepend : take (span.end - span.prepend) (drop span.prepend bytes) ≡ rule.prepend
  pub rising : span.key ≤ span.prepend
  pub rising_on : span.prepend ≤ span.end
  pub within : span.end ≤ length bytes

-- a pattern of the rule at a place, which acts on the side: it stands among the bytes, and its answer stands for the
-- rule
pub record IsPatternAt (side : Side) (rules : List MappingRule) (bytes : List ℕ) (place : ℕ) (one : Pattern) : Type
    0 where
  pub rule : MappingRule
  pub here : slice_get rules place ≡ Some rule
  pub acting : acts side rule ≡ true
  pub are : one.bytes.now ≡ pattern side rule
  pub among : take (length one.bytes.now) (drop one.start bytes) ≡ one.bytes.now
  pub stands_for : one.answer ≡ 4 * place + type_number rule.kind

-- a pattern of a rule that acts on the side
pub record IsPattern (side : Side) (rules : List MappingRule) (bytes : List ℕ) (one : Pattern) : Type 0 where
  pub place : ℕ
  pub is : IsPatternAt side rules bytes place one

-- what names of that side are compared with
abbrev pub patterns_on : Side → List MappingRule → List (List ℕ)
patterns_on side rules = map (pattern side) (filter (acts side) rules)

-- the patterns of the rules before a place that act on the side, one for each rule
pub record ArePatterns (side : Side) (rules : List MappingRule) (bytes : List ℕ) (end : ℕ) (patterns : List Pattern) : Type
    0 where
  pub texts : IsPermutation (patterns_on side (take end rules)) (map (λ one. one.bytes.now) patterns)
  pub each : All (IsPattern side rules bytes) patterns
  pub every : (place : ℕ) (rule : MappingRule) → place < end → slice_get rules place ≡ Some rule → acts side rule ≡ true
      → (one : Pattern) × Contains patterns one × (one.bytes.now ≡ pattern side rule)
      × (one.answer ≡ 4 * place + type_number rule.kind)

-- ---- nodes as rows of bytes

-- the numbers of a node are within these bounds
pub record IsBounded (nodes : List Node) (bytes : List ℕ) (node : Node) : Type 0 where
  pub answer : node.answer ≤ no_answer
  pub label : node.label ≤ length bytes
  pub size : node.length < 256
  pub base : node.base ≤ length nodes
  pub width : node.width < 256

-- the numbers of a node fit into its row
pub record IsSmall (node : Node) : Type 0 where
  pub answer : node.answer < 281474976710656
  pub label : node.label < 281474976710656
  pub size : node.length < 256
  pub base : node.base < 140737488355328
  pub width : node.width < 256

-- the bytes of a node are bytes
pub record HasBytes (node : Node) : Type 0 where
  pub low_byte : node.low_byte < 256
  pub first_byte : node.first_byte < 256

-- the 24 bytes of a node: three numbers of eight bytes, the lowest byte first, the first two of which hold three
unfoldable pub row_of : Node → List ℕ
row_of node =
    le_u64_bytes (65536 * node.label + (256 * node.first_byte + node.length))
    ++ le_u64_bytes
    (65536 * (node.base + (if node.is_sparse then 140737488355328 else 0)) + (256 * node.width + node.low_byte))
    ++ le_u64_bytes node.answer

-- the node with the places that it has in an image in which the rows of its trie begin there, counted in eights, and
-- the bytes among which labels stand there, counted in bytes
abbrev pub placed : ℕ → ℕ → Node → Node
placed first labels node =
    record {
      answer = node.answer;
      label = labels + node.label;
      length = node.length;
      base = first + 3 * node.base;
      width = node.width;
      low_byte = node.low_byte;
      first_byte = node.first_byte;
      is_sparse = node.is_sparse;
    }

-- the row of a node in such an image
abbrev pub row_in : ℕ → ℕ → Node → List ℕ
row_in first labels node = row_of (placed first labels node)

-- the numbers of a node fit into its row in such an image
abbrev pub IsSmallIn : ℕ → ℕ → Node → Type 0
IsSmallIn first labels node = IsSmall (placed first labels node)

-- from there on the image has the rows of these nodes
pub record HasRows (image : List ℕ) (first labels : ℕ) (nodes : List Node) : Type 0 where
  pub within : 8 * first + 24 * length nodes ≤ length image
  pub are : take (24 * length nodes) (drop (8 * first) image) ≡ flat_map (row_in first labels) nodes
  pub small : All (IsSmallIn first labels) nodes
  pub bytes : All HasBytes nodes

-- the rows are those of these nodes, if their numbers fit; their trie begins there, counted in eights, and their labels
-- are counted from the first byte of all patterns
pub record AreRowsOf (rows : List ℕ) (first : ℕ) (nodes : List Node) : Type 0 where
  pub long : length rows ≡ 24 * length nodes
  pub are : All (IsSmallIn first 0) nodes → rows ≡ flat_map (row_in first 0) nodes
  pub bytes : All HasBytes nodes

-- from there on the image has these bytes
pub record HasBytesAt (image : List ℕ) (start : ℕ) (bytes : List ℕ) : Type 0 where
  pub within : start + length bytes ≤ length image
  pub are : take (length bytes) (drop start image) ≡ bytes

-- the row is that of a node
pub record IsRowOf (node : Node) (row : List ℕ) : Type 0 where
  pub is : row ≡ row_of node
  pub small : IsSmall node
  pub bytes : HasBytes node

-- the row is that of a node with the places that it has in an image
abbrev pub IsRow : ℕ → ℕ → Node → List ℕ → Type 0
IsRow first labels node row = IsRowOf (placed first labels node) row

-- how many nodes the trie of a side has, with its holes
abbrev pub node_count : Side → List MappingRule → ℕ
node_count side rules = nodes_in_all (patterns_on side rules)

-- the nodes are a trie of the patterns of that side, whose labels stand among the bytes, and of few rules
pub record IsTrieWith (side : Side) (rules : List MappingRule) (nodes : List Node) (bytes : List ℕ) : Type 0 where
  pub trie : IsTrie side rules nodes bytes
  pub bounded : All (IsBounded nodes bytes) nodes
  pub counted : length nodes ≡ node_count side rules
  pub few : AreFew rules

-- the rows are those of such a trie, which begins there, counted in eights
pub record AreTrieRows (side : Side) (rules : List MappingRule) (bytes rows : List ℕ) (first : ℕ) : Type 0 where
  pub nodes : List Node
  pub trie : IsTrieWith side rules nodes bytes
  pub rows_of : AreRowsOf rows first nodes

-- between these places the image has the rows of a trie of the patterns of that side, whose labels stand among the
-- bytes, which begin there, and of few rules
pub record IsTrieIn (side : Side) (rules : List MappingRule) (image : List ℕ) (start end labels : ℕ) (bytes : List ℕ)
    : Type 0 where
  pub first : ℕ
  pub nodes : List Node
  pub begins_at : start ≡ 8 * first
  pub ends_at : end ≡ start + 24 * length nodes
  pub rows_of : HasRows image first labels nodes
  pub texts : HasBytesAt image labels bytes
  pub trie : IsTrie side rules nodes bytes
  pub counted : length nodes ≡ node_count side rules
  pub few : AreFew rules

-- ---- what a walk promises

-- a walk found the answer of a name, and the bytes that it passed hold no zero where the patterns of the rules hold
-- none
pub record Passes (side : Side) (rules : List MappingRule) (name : List ℕ) (answer passed : ℕ) : Type 0 where
  pub answers : answer ≡ answer_of side rules name
  pub no_zero : All HasNoZero rules → All (λ byte. byte ≢ 0) (take passed name)

-- ---- a step of a walk

-- the children of a node are found by their bytes, and their labels stand among the bytes
pub record IsReadable (nodes : List Node) (bytes : List ℕ) (parent : Node) : Type 0 where
  pub within : parent.base + parent.width ≤ length nodes
  pub placed : parent.is_sparse ≡ false → 1 ≤ parent.width → AreInSlots nodes parent
  pub labels : (byte at : ℕ) (child : Node) → IsChild nodes parent byte at child
      → child.label + child.length ≤ length bytes

-- the byte leads nowhere
abbrev pub LeadsNowhere : List Node → Node → ℕ → Type 0
LeadsNowhere nodes parent byte = (at : ℕ) (child : Node) → ¬ IsChild nodes parent byte at child

-- the root has that row
pub record IsRootRow (first labels : ℕ) (nodes : List Node) (row : List ℕ) : Type 0 where
  pub node : Node
  pub here : slice_get nodes 0 ≡ Some node
  pub is : IsRow first labels node row

-- the byte leads to a child of the node, which has that row
pub record LeadsToRow (first labels : ℕ) (nodes : List Node) (parent : Node) (byte : ℕ) (row : List ℕ) : Type
    0 where
  pub place : ℕ
  pub child : Node
  pub leads : IsChild nodes parent byte place child
  pub is : IsRow first labels child row

-- the first byte of the rest and the label of a child, which has that row, were passed and counted
pub record StepsTo (first labels : ℕ) (nodes : List Node) (bytes : List ℕ) (parent : Node) (rest row : List ℕ)
    (left : List ℕ) (before after : ℕ) : Type 0 where
  pub byte : ℕ
  pub place : ℕ
  pub child : Node
  pub leads : IsChild nodes parent byte place child
  pub is : IsRow first labels child row
  pub passed : rest ≡ byte ∷ label_of bytes child ++ left
  pub counted : after ≡ count_after before (length (label_of bytes child) + 1)

-- nothing is left, or its first byte leads nowhere; nothing was counted
pub record Ends (nodes : List Node) (parent : Node) (rest : List ℕ) (before after : ℕ) : Type 0 where
  pub nowhere : (byte : ℕ) (left : List ℕ) → rest ≡ byte ∷ left → LeadsNowhere nodes parent byte
  pub counted : after ≡ before

-- the first byte of the rest leads to a child whose label does not begin what is left; where the count is whole, that
-- byte was counted and those that the label shares with what is left
pub record Misses (nodes : List Node) (bytes : List ℕ) (parent : Node) (rest : List ℕ) (whole : Bool)
    (before after : ℕ) : Type 0 where
  pub byte : ℕ
  pub left : List ℕ
  pub split : rest ≡ byte ∷ left
  pub place : ℕ
  pub child : Node
  pub leads : IsChild nodes parent byte place child
  pub unlike : begins (label_of bytes child) left ≡ false
  pub counted : whole ≡ true → after ≡ count_after before (shared (label_of bytes child) left + 1)

-- no child can be passed: none is there, or the label of one does not fit
abbrev pub StaysAt : List Node → List ℕ → Node → List ℕ → Bool → ℕ → ℕ → Type 0
StaysAt nodes bytes parent rest whole before after =
    Ends nodes parent rest before after ⊎ Misses nodes bytes parent rest whole before after

-- a walk stands at a node: its path was passed, each byte of it was counted, and the rest of the name is left
pub record StandsAt (side : Side) (rules : List MappingRule) (nodes : List Node) (bytes : List ℕ)
    (trie : IsTrie side rules nodes bytes) (name : List ℕ) (node : Node) (rest : List ℕ)
    (before count : ℕ) : Type 0 where
  pub at : ℕ
  pub here : slice_get nodes at ≡ Some node
  pub real : IsReal at node
  pub split : name ≡ trie.path at ++ rest
  pub counted : count ≡ count_after before (length (trie.path at) + 1)
