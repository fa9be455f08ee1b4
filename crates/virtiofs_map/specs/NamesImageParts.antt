-- How images of maps of names are written and read. Only private functions, and the model of `XattrMap`, cite these
-- definitions.
use Rattle.std.specs.Prelude.{◌≡◌, ◌⊎◌, ℕ, zero, suc, ◌+◌, ◌-◌, ◌*◌, ◌/◌, ◌%◌, ◌≤◌, ◌==◌, if◌then◌else◌, List, [], ◌∷◌}
use Rattle.std.specs.Prelude.{◌++◌, length, take, drop}
use Rattle.std.specs.List.{flat_map}
use Rattle.virtiofs_map.specs.LeU64Parts.{le_u64_at, le_u64_bytes}
use Rattle.virtiofs_map.specs.Names.{HostAnswer, IsListed, IsHidden, IsUndecided, host_answer, names}
use Rattle.virtiofs_map.specs.NamesImage.{IsImage, IsMapOf, image_kind, image_length, longest_image, part, part_end}
use Rattle.virtiofs_map.specs.NamesImage.{part_start, span_of}
use Rattle.virtiofs_map.specs.NodeParts.{IsTrieIn}
use Rattle.virtiofs_map.specs.Rule.{MappingRule, RuleType, Prefix, Okay, Bad, Unsupported}
use Rattle.virtiofs_map.specs.RuleParts.{holds}
use Rattle.virtiofs_map.specs.declared.xattrmap.image.write.Places.{Places}
use Rattle.virtiofs_map.specs.declared.xattrmap.listed.Seen.{Seen}
use Rattle.virtiofs_map.specs.declared.xattrmap.listed.Seen.TheVariants.{Undecided, Hidden, Listed}
use Rattle.virtiofs_map.specs.declared.xattrmap.scopes.Side.{Side}
use Rattle.virtiofs_map.specs.declared.xattrmap.scopes.Side.TheVariants.{Client, Server}
use Rattle.virtiofs_map.specs.declared.xattrmap.view.XattrMapRef.{XattrMapRef}

-- ---- the rules that an image has

-- the type of that number
abbrev pub type_numbered : ℕ → RuleType
type_numbered number =
    if number == 0 then Prefix else if number == 1 then Okay else if number == 2 then Bad else Unsupported

-- the rule of a row, whose patterns stand among the bytes
abbrev pub rule_of_row : List ℕ → List ℕ → MappingRule
rule_of_row bytes row = record {
  kind = type_numbered (le_u64_at row 0 / 281474976710656 % 4);
  client = holds Client (le_u64_at row 0 / 281474976710656 / 4 % 4);
  server = holds Server (le_u64_at row 0 / 281474976710656 / 4 % 4);
  key = take ((span_of row).prepend - (span_of row).key) (drop (span_of row).key bytes);
  prepend = take ((span_of row).end - (span_of row).prepend) (drop (span_of row).prepend bytes);
}

-- the rules of the first of these rows
abbrev pub rules_of_rows : List ℕ → ℕ → List ℕ → List MappingRule
rules_of_rows bytes zero rows = []
rules_of_rows bytes (suc count) rows = rule_of_row bytes (take 24 rows) ∷ rules_of_rows bytes count (drop 24 rows)

-- the rules of these rows
unfoldable pub rules_stored : List ℕ → List ℕ → List MappingRule
rules_stored bytes rows = rules_of_rows bytes (length rows / 24) rows

-- the rules that an image has
unfoldable pub rules_in : List ℕ → List MappingRule
rules_in image = rules_stored (part image 3) (part image 2)

-- the rules that a map has
abbrev pub rules_of : XattrMapRef → List MappingRule
rules_of map = rules_in map.bytes.now

-- the bytes are an image of the rules that they have
abbrev pub IsMap : XattrMapRef → Type 0
IsMap map = IsMapOf (rules_of map) map

-- the part that has the trie of a side
abbrev pub part_of : Side → ℕ
part_of Client = 0
part_of Server = 1

-- from there on the bytes of a map have the trie of that side
abbrev pub HasTrie : Side → List MappingRule → List ℕ → List ℕ → ℕ → Type 0
HasTrie side rules bytes image root =
    IsTrieIn side rules image root (part_end bytes (part_of side)) (part_start bytes 3) (part bytes 3)

-- the bytes are an image of these rules, and nothing follows it
pub record IsWholeImage (rules : List MappingRule) (bytes : List ℕ) : Type 0 where
  pub image : IsImage rules bytes
  pub whole : length bytes ≡ image_length rules

-- ---- writing

-- the buffer starts with the bytes written so far, and the rest is unchanged; if they do not fit, the buffer may
-- contain anything
pub record Holds (so_far old new : List ℕ) : Type 0 where
  pub same : length new ≡ length old
  pub are : length so_far ≤ length old → new ≡ so_far ++ drop (length so_far) old

-- the places are those of parts that have so many bytes, and so many rules
pub record ArePlaces (client server rules bytes : ℕ) (places : Places) : Type 0 where
  pub first : places.server ≡ 48 + client
  pub second : places.rules ≡ places.server + server
  pub third : places.bytes ≡ places.rules + 24 * rules
  pub last : places.end ≡ places.bytes + bytes
  pub short : places.end + 8 ≤ longest_image

-- the six numbers at the beginning of an image
abbrev pub numbers_of : Places → List ℕ
numbers_of places = image_kind ∷ 48 ∷ places.server ∷ places.rules ∷ places.bytes ∷ places.end ∷ []

-- the bytes of these six numbers
abbrev pub header_of : Places → List ℕ
header_of places = flat_map le_u64_bytes (numbers_of places)

-- ---- lists

-- the guest sees that of a name of the host
abbrev pub IsSeenAs : HostAnswer → Seen → Type 0
IsSeenAs answer Undecided = answer ≡ IsUndecided
IsSeenAs answer Hidden = answer ≡ IsHidden
IsSeenAs answer (Listed shown) = answer ≡ IsListed shown.now

-- how many bytes are listed
abbrev pub seen_length : Seen → ℕ
seen_length Undecided = 0
seen_length Hidden = 0
seen_length (Listed shown) = length shown.now

-- the guest sees that of the first name of a list, and the rest has the other names; or the rest has all names, and
-- nothing is seen
abbrev pub IsFirstSeen : List MappingRule → List ℕ → Seen → List ℕ → Type 0
IsFirstSeen rules list seen rest =
    ((names list ≡ names rest) × (seen ≡ Hidden))
    ⊎ ((name : List ℕ) × (names list ≡ name ∷ names rest) × IsSeenAs (host_answer rules name) seen)
