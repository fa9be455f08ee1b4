-- What the private functions of an audit say: what is asked about a name, which names are tried, and what was found.
-- Only they cite these definitions.
use Rattle.std.specs.Prelude.{◌≡◌, ◌≢◌, ◌⊎◌, Contains, ℕ, ◌+◌, ◌-◌, ◌<◌, ◌≤◌, Bool, true, false, if◌then◌else◌}
use Rattle.std.specs.Prelude.{List, [], ◌∷◌, ◌++◌, length, drop, slice_get, Option, Some, None, is_none, option_map}
use Rattle.std.specs.Prelude.{option_and_then}
use Rattle.std.specs.Cmp.Lexicographic.{slice_cmp}
use Rattle.std.specs.List.{filter_map}
use Rattle.std.specs.List.Sorted.{IsSorted}
use Rattle.std.specs.Option.{option_map_or}
use Rattle.std.specs.Ordering.{nat_cmp, is_lt}
use Rattle.virtiofs_map.specs.Audit.{IsBefore, HasFault, Reached, Within}
use Rattle.virtiofs_map.specs.FirstRule.{acts, pattern}
use Rattle.virtiofs_map.specs.MapRule.{IsName}
use Rattle.virtiofs_map.specs.Names.{IsHidden, Passes, client_answer, deciding, host_answer}
use Rattle.virtiofs_map.specs.NamesImage.{IsMapOf}
use Rattle.virtiofs_map.specs.Rule.{RuleType, Prefix, Okay, Bad, Unsupported, MappingRule}
use Rattle.virtiofs_map.specs.declared.audit.answer.Audit.{Audit}
use Rattle.virtiofs_map.specs.declared.audit.answer.Audit.TheVariants.{Yes, No}
use Rattle.virtiofs_map.specs.declared.audit.asking.NameFault.{NameFault}
use Rattle.virtiofs_map.specs.declared.audit.asking.NameFault.TheVariants.{Lost, Stray, Seen, Shared}
use Rattle.virtiofs_map.specs.declared.audit.gathered.Part.{Part}
use Rattle.virtiofs_map.specs.declared.audit.gathered.Part.TheVariants.{Pattern, Added, Passed}
use Rattle.virtiofs_map.specs.declared.audit.question.Question.{Question}
use Rattle.virtiofs_map.specs.declared.xattrmap.scopes.Side.{Side}
use Rattle.virtiofs_map.specs.declared.xattrmap.scopes.Side.TheVariants.{Client, Server}

-- ---- how a rule lets a name through

-- what a rule puts before a guest's name to make the host's name; none if the rule lets no name through
abbrev pub added_prefix_by : RuleType → List ℕ → Option (List ℕ)
added_prefix_by Okay prepend = Some []
added_prefix_by Prefix prepend = Some prepend
added_prefix_by Bad prepend = None
added_prefix_by Unsupported prepend = None

abbrev pub added_prefix_of : MappingRule → Option (List ℕ)
added_prefix_of rule = added_prefix_by rule.kind rule.prepend

-- what is put before a name, or taken off it, by the first rule that fits it on that side
abbrev pub added_prefix : Side → List MappingRule → List ℕ → Option (List ℕ)
added_prefix side rules name = option_and_then added_prefix_of (deciding side rules name)

-- a rule decides the host name, and hides it
abbrev pub is_hidden : List MappingRule → List ℕ → Bool
is_hidden rules host = option_map_or (λ rule. is_none (added_prefix_of rule)) (deciding Server rules host) false

-- what is left of the host name behind the first `at` bytes passes as the host name
abbrev pub PutsAt : List MappingRule → List ℕ → ℕ → Type 0
PutsAt rules host at = client_answer rules (drop at host) ≡ Passes host

-- the server's rules take so many bytes off the host name
abbrev pub CutsAt : List MappingRule → List ℕ → ℕ → Type 0
CutsAt rules host at = (cut : List ℕ) × (added_prefix Server rules host ≡ Some cut) × (length cut ≡ at)

-- the server's rules take just that off a name, from one that begins with it; or it is nothing
abbrev pub IsCut : List MappingRule → List ℕ → Type 0
IsCut rules cut = (cut ≡ []) ⊎ CutsAt rules cut (length cut)

-- ---- what is gathered from the rules

-- that part of a rule, if it has one
abbrev pub part_of : Part → MappingRule → Option (List ℕ)
part_of (Pattern side) rule = if acts side rule then Some (pattern side rule) else None
part_of (Added side) rule = if acts side rule then added_prefix_of rule else None
part_of Passed rule = if rule.client then option_map (λ added. added ++ rule.key) (added_prefix_of rule) else None

-- that part of each rule which has one
abbrev pub parts : Part → List MappingRule → List (List ℕ)
parts part rules = filter_map (part_of part) rules

-- ---- names in the order of their bytes

-- the names stand in the order of their bytes
abbrev pub AreOrdered : List (List ℕ) → Type 0
AreOrdered names = IsSorted (slice_cmp nat_cmp) names

-- the name at that place stands just before it too
abbrev pub IsRepeated : List (List ℕ) → ℕ → Type 0
IsRepeated names place = (0 < place) × (slice_get names (place - 1) ≡ slice_get names place)

-- the names before that place come before the bytes, and the others do not
pub record CountsBefore (names : List (List ℕ)) (bytes : List ℕ) (count : ℕ) : Type 0 where
  pub at_most : count ≤ length names
  pub before : (place : ℕ) (name : List ℕ) → place < count → slice_get names place ≡ Some name
      → IsBefore name bytes
  pub after : (place : ℕ) (name : List ℕ) → count ≤ place → slice_get names place ≡ Some name
      → ¬ IsBefore name bytes

-- ---- what is asked

-- the side whose names may have the fault
abbrev pub side_of : NameFault → Side
side_of Lost = Client
side_of Stray = Server
side_of Seen = Client
side_of Shared = Client

-- what names of the other side begin with: two names that begin with the same of these fare alike there
abbrev pub ends_of : NameFault → List MappingRule → List MappingRule → List (List ℕ)
ends_of Lost rules others = parts (Pattern Server) rules
ends_of Stray rules others = parts (Pattern Client) rules
ends_of Seen rules others = parts (Pattern Server) others
ends_of Shared rules others = parts Passed others

-- what is asked is asked of maps of these rules
pub record IsAskedOf (question : Question) (rules others : List MappingRule) : Type 0 where
  pub map : IsMapOf rules question.map
  pub other : IsMapOf others question.other

-- a name of the guest has the fault, if it passes as that host name, with so many bytes put before it
abbrev pub FailsAs : NameFault → List MappingRule → List MappingRule → List ℕ → ℕ → Type 0
FailsAs Lost rules others host added = (added < length host) × (¬ CutsAt rules host added)
FailsAs Stray rules others host added = ⊥
FailsAs Seen rules others host added = IsName host × (host ≢ []) × (host_answer others host ≢ IsHidden)
FailsAs Shared rules others host added = Reached others host

-- the name is one that is asked for
abbrev pub IsBad : Question → List MappingRule → List MappingRule → List ℕ → Type 0
IsBad question rules others = Within question.beginning.bytes.now (HasFault question.fault rules others)

-- ---- what was found

-- the least bad name of those tried, if any is bad, and how many were counted
pub record TriedSoFar : Type 0 where
  pub least : Option (List ℕ)
  pub count : ℕ

abbrev pub none_tried : TriedSoFar
none_tried = record { least = None; count = 0 }

-- the name comes before the least one so far
abbrev pub is_first : Option (List ℕ) → List ℕ → Bool
is_first None name = true
is_first (Some found) name = is_lt (slice_cmp nat_cmp name found)

-- the name of a `No`
abbrev pub told : {A : Type 0} → Audit A → Option (List ℕ)
told Yes = None
told (No name) = Some name

-- the name is not bad, or a bad name was found that it does not come before
abbrev pub Handled : (List ℕ → Type 0) → Option (List ℕ) → List ℕ → Type 0
Handled bad least name = bad name → (found : List ℕ) × (least ≡ Some found) × (¬ IsBefore name found)

-- no name of the set comes before what is found now, nor does one that did not come before what was found; what is
-- found is bad, and at most so many names were counted
pub record Tries (bad names : List ℕ → Type 0) (most : ℕ) (old new : TriedSoFar) : Type 0 where
  pub handled : (name : List ℕ) → names name → Handled bad new.least name
  pub kept : (name : List ℕ) → Handled bad old.least name → Handled bad new.least name
  pub found : (name : List ℕ) → new.least ≡ Some name → (old.least ≡ Some name) ⊎ bad name
  pub counts : new.count ≤ old.count + most

-- the same of what is asked, whatever rules the maps have; the names are those that such rules lead to
abbrev pub AllTried : Question → (List MappingRule → List ℕ → Type 0) → ℕ → TriedSoFar → TriedSoFar → Type 0
AllTried question names most old new =
    (rules others : List MappingRule) → IsAskedOf question rules others
    → Tries (IsBad question rules others) (names rules) most old new

-- ---- which names are tried

-- one of these leads to the name
abbrev pub LedTo : List (List ℕ) → (List ℕ → List ℕ → Type 0) → List ℕ → Type 0
LedTo xs leads name = (x : List ℕ) × Contains xs x × leads x name

-- the name is what is left of a pattern after `added`, and passes as it
abbrev pub IsLiveRest : List MappingRule → List (List ℕ) → List ℕ → List ℕ → Type 0
IsLiveRest rules patterns added =
    LedTo patterns (λ pattern name. (pattern ≡ added ++ name) × (client_answer rules name ≡ Passes pattern))

-- the name is one of the ends after the front
abbrev pub IsWhole : List (List ℕ) → List ℕ → List ℕ → Type 0
IsWhole ends front = LedTo ends (λ end name. name ≡ front ++ end)

-- the name is what one of the ends comes to by the front, on that side; of the host's side, if the server's rules take
-- the front off a name
abbrev pub IsLed : Side → List MappingRule → List (List ℕ) → List ℕ → List ℕ → Type 0
IsLed Client rules ends front name = IsLiveRest rules ends front name
IsLed Server rules ends front name = IsCut rules front × IsWhole ends front name

abbrev pub IsOneByte : List ℕ → Type 0
IsOneByte name = (byte : ℕ) × (0 < byte) × (byte < 256) × (name ≡ byte ∷ [])

-- the beginning, the patterns, what the ends come to by the fronts, and the names of one byte
abbrev pub IsTried :
    Side → List MappingRule → List ℕ → List (List ℕ) → List (List ℕ) → List (List ℕ) → List ℕ → Type 0
IsTried side rules beginning patterns fronts ends name =
    (name ≡ beginning) ⊎ (IsWhole patterns [] name ⊎ (LedTo fronts (IsLed side rules ends) name ⊎ IsOneByte name))
