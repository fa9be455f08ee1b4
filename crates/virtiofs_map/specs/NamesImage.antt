-- An image of a map of names: bytes that are written once, and then only read.
use Rattle.std.specs.Prelude.{◌≡◌, ◌≢◌, ◌⊎◌, ℕ, ◌+◌, ◌-◌, ◌*◌, ◌/◌, ◌%◌, ◌<◌, ◌≤◌, if◌then◌else◌, List, [], ◌∷◌, ◌++◌}
use Rattle.std.specs.Prelude.{length, take, drop, slice_get, All, Option, Some, None, IsSomeAnd}
use Rattle.virtiofs_map.specs.NodeParts.{IsSpan, IsTrieIn, node_count}
use Rattle.virtiofs_map.specs.LeU64Parts.{le_u64_at}
use Rattle.virtiofs_map.specs.Names.{deciding}
use Rattle.virtiofs_map.specs.Rule.{MappingRule, HasNoZero, type_number}
use Rattle.virtiofs_map.specs.Rule as types
use Rattle.virtiofs_map.specs.declared.xattrmap.image.Decision.{Decision}
use Rattle.virtiofs_map.specs.declared.xattrmap.image.Decision.TheVariants as decisions
use Rattle.virtiofs_map.specs.declared.xattrmap.image.ImageWritten.{ImageWritten}
use Rattle.virtiofs_map.specs.declared.xattrmap.image.ImageWritten.TheVariants as images
use Rattle.virtiofs_map.specs.declared.xattrmap.image.ListWritten.{ListWritten}
use Rattle.virtiofs_map.specs.declared.xattrmap.image.ListWritten.TheVariants as lists
use Rattle.virtiofs_map.specs.declared.xattrmap.scopes.Side.{Side}
use Rattle.virtiofs_map.specs.declared.xattrmap.scopes.Side.TheVariants.{Client, Server}
use Rattle.virtiofs_map.specs.declared.xattrmap.spans.Span.{Span}
use Rattle.virtiofs_map.specs.declared.xattrmap.view.XattrMapRef.{XattrMapRef}

-- ---- parts

-- the number with which an image of names begins: the letters vfsname, and the version 2
abbrev pub image_kind : ℕ
image_kind = 172664425955944054

-- the start of a part. An image begins with six numbers: its kind, the starts of the four parts, in order, and the
-- end of the last part.
abbrev pub part_start : List ℕ → ℕ → ℕ
part_start image which = le_u64_at image (8 * which + 8)

abbrev pub part_end : List ℕ → ℕ → ℕ
part_end image which = le_u64_at image (8 * which + 16)

-- the part of that number: 0 has the rows of the client's trie, 1 those of the server's, 2 the rows of the rules, and 3
-- the bytes of all patterns
abbrev pub part : List ℕ → ℕ → List ℕ
part image which = take (part_end image which - part_start image which) (drop (part_start image which) image)

-- the part is all there
pub record HasPart (image : List ℕ) (which : ℕ) : Type 0 where
  pub rising : part_start image which ≤ part_end image which
  pub within : part_end image which ≤ length image

-- ---- rules as rows of bytes

-- what a rule does, and on which sides, as a number
abbrev pub acts_number : MappingRule → ℕ
acts_number rule = type_number rule.kind + 4 * (if rule.client then 1 else 0) + 8 * (if rule.server then 1 else 0)

-- where the patterns of the rule of a row stand
abbrev pub span_of : List ℕ → Span
span_of row =
    record { key = le_u64_at row 0 % 281474976710656; prepend = le_u64_at row 8; end = le_u64_at row 16 }

-- the row is that of the rule, whose patterns stand among the bytes
pub record IsRuleRow (bytes : List ℕ) (rule : MappingRule) (row : List ℕ) : Type 0 where
  pub acts : le_u64_at row 0 / 281474976710656 ≡ acts_number rule
  pub is : IsSpan bytes rule (span_of row)

-- the row at a place
abbrev pub row_at : List ℕ → ℕ → List ℕ
row_at rows at = take 24 (drop (at * 24) rows)

-- the rows are those of the rules, whose patterns stand among the bytes
pub record AreRuleRows (rules : List MappingRule) (rows bytes : List ℕ) : Type 0 where
  pub long : length rows ≡ 24 * length rules
  pub each : (place : ℕ) (rule : MappingRule) → slice_get rules place ≡ Some rule
      → IsRuleRow bytes rule (row_at rows place)
  -- fewer than 2^48 bytes, so that a position fits into 48 bits
  pub few : length bytes < 281474976710656

-- ---- how long an image is

-- how many bytes the patterns of the rules have
abbrev pub pattern_bytes : List MappingRule → ℕ
pattern_bytes [] = 0
pattern_bytes (rule ∷ rules) = length rule.key + length rule.prepend + pattern_bytes rules

-- how many bytes the image of a map of the rules has: six numbers of 8 bytes, a row of 24 bytes for each node of the
-- two tries and for each rule, all patterns, and one number more
unfoldable pub image_length : List MappingRule → ℕ
image_length rules =
    56 + 24 * (node_count Client rules + node_count Server rules + length rules) + pattern_bytes rules

-- the most bytes that an image may have
abbrev pub longest_image : ℕ
longest_image = 281474976710655

-- ---- what an image says

-- the number behind the patterns is the first one again: so a part of an image with zeros behind it is no image
pub record HasEnd (image : List ℕ) : Type 0 where
  pub within : part_end image 3 + 8 ≤ length image
  pub is : le_u64_at image (part_end image 3) ≡ image_kind

-- the bytes are an image of a map of these rules
pub record IsImage (rules : List MappingRule) (image : List ℕ) : Type 0 where
  -- the image begins with six numbers, the first of which says what it is, and the row of a root
  pub begun : 72 ≤ length image
  pub ended : HasEnd image
  pub kind : le_u64_at image 0 ≡ image_kind
  -- the parts that the other numbers name are all there: the first stands behind these numbers, and one number behind
  -- the last
  pub parts : (which : ℕ) → which < 4 → HasPart image which
  pub first : part_start image 0 ≡ 48
  pub last : part_end image 3 + 8 ≡ image_length rules
  pub short : image_length rules ≤ longest_image
  -- the image has a trie of what names are compared with, for each side
  pub client : IsTrieIn Client rules image (part_start image 0) (part_end image 0) (part_start image 3) (part image 3)
  pub server : IsTrieIn Server rules image (part_start image 1) (part_end image 1) (part_start image 3) (part image 3)
  -- the image has the rules themselves, and no pattern holds a zero
  pub stored : AreRuleRows rules (part image 2) (part image 3)
  pub no_zero : All HasNoZero rules

-- the map is one of these rules: its bytes are an image of them
abbrev pub IsMapOf : List MappingRule → XattrMapRef → Type 0
IsMapOf rules map = IsImage rules map.bytes.now

-- the bytes do not begin as an image does, or it does not end among them
abbrev pub IsNoImage : List ℕ → Type 0
IsNoImage image = (length image < 72) ⊎ (le_u64_at image 0 ≢ image_kind) ⊎ (¬ HasEnd image)

-- the image of the rules has so many bytes
abbrev pub HasImage : List MappingRule → ℕ → Type 0
HasImage rules count =
    (count ≡ image_length rules) × (image : List ℕ) × (length image ≡ count) × IsImage rules image

-- ---- what the calls say

-- what came of writing an image into bytes that were old and are new
abbrev pub WritesImage : List MappingRule → List ℕ → List ℕ → ImageWritten → Type 0
WritesImage rules old new (images.Written count) =
    (count ≡ image_length rules) × (count ≤ length old) × IsImage rules (take count new)
    × (drop count new ≡ drop count old)
WritesImage rules old new (images.NoRoom count) = (length old < count) × HasImage rules count × (new ≡ old)
WritesImage rules old new images.TooLong = (longest_image < image_length rules) × (new ≡ old)

-- the decision says which rule decides the name: the first that fits it, or none
abbrev pub Says : Side → List MappingRule → List ℕ → Decision → Type 0
Says side rules name decisions.NoMap = ⊥
Says side rules name decisions.Undecided = deciding side rules name ≡ None
Says side rules name decisions.Okay = IsSomeAnd (deciding side rules name) (λ rule. rule.kind ≡ types.Okay)
Says side rules name (decisions.Prefix prepend) =
    IsSomeAnd (deciding side rules name) (λ rule. (rule.kind ≡ types.Prefix) × (rule.prepend ≡ prepend.now))
Says side rules name decisions.Bad = IsSomeAnd (deciding side rules name) (λ rule. rule.kind ≡ types.Bad)
Says side rules name decisions.Unsupported =
    IsSomeAnd (deciding side rules name) (λ rule. rule.kind ≡ types.Unsupported)

-- what came of writing a list, if there is one, into bytes that were old and are new
abbrev pub WritesList : Option (List ℕ) → List ℕ → List ℕ → ListWritten → Type 0
WritesList answer old new lists.NoMap = ⊥
WritesList answer old new lists.Undecided = answer ≡ None
WritesList answer old new (lists.Written count) =
    (list : List ℕ) × (answer ≡ Some list) × (count ≡ length list) × (new ≡ list ++ drop count old)
WritesList answer old new (lists.NoRoom count) =
    (list : List ℕ) × (answer ≡ Some list) × (count ≡ length list) × (length old < count)
