-- What a map makes of the names of attributes. A name is a list of bytes, none of them zero.
use Rattle.std.specs.Prelude.{◌≡◌, ℕ, Bool, true, false, ◌&&◌, not, if◌then◌else◌, ◌==◌, nat_eq, List, [], ◌∷◌, ◌++◌}
use Rattle.std.specs.Prelude.{length, drop, filter, position, Option, Some, None, option_and_then}
use Rattle.std.specs.List.{starts_with, slice_get, slice_split, list_all, filter_map, flat_map}
use Rattle.std.specs.Option.{option_map_or}
use Rattle.virtiofs_map.specs.Rule.{RuleType, Prefix, Okay, Bad, Unsupported, MappingRule}
use Rattle.virtiofs_map.specs.declared.xattrmap.scopes.Side.{Side}
use Rattle.virtiofs_map.specs.declared.xattrmap.scopes.Side.TheVariants.{Client, Server}

-- the name is front, followed by some bytes or none
abbrev pub begins : List ℕ → List ℕ → Bool
begins front name = starts_with nat_eq name front

-- the rule acts on that side, and the name starts with the rule's pattern for that side
abbrev pub fits : Side → List ℕ → MappingRule → Bool
fits Client name rule = rule.client && begins rule.key name
fits Server name rule = rule.server && begins rule.prepend name

-- the place of the first rule that fits a name of that side
abbrev pub first : Side → List MappingRule → List ℕ → Option ℕ
first side rules name = position (fits side name) rules

-- the first rule that fits a name of that side
abbrev pub deciding : Side → List MappingRule → List ℕ → Option MappingRule
deciding side rules name = option_and_then (slice_get rules) (first side rules name)

-- ---- a name from the guest

-- what becomes of a name that the guest asks for
pub data ClientAnswer : Type 0 where
  Passes : List ℕ → ClientAnswer
  IsDenied : ClientAnswer
  IsUnsupported : ClientAnswer
  IsUnterminated : ClientAnswer

-- what a rule of that type and prepend makes of a name that the guest asks for
abbrev pub answer_by : RuleType → List ℕ → List ℕ → ClientAnswer
answer_by Okay prepend name = Passes name
answer_by Prefix prepend name = Passes (prepend ++ name)
answer_by Bad prepend name = IsDenied
answer_by Unsupported prepend name = IsUnsupported

-- what the first rule that fits makes of a name that the guest asks for
abbrev pub client_answer : List MappingRule → List ℕ → ClientAnswer
client_answer rules name =
    option_map_or (λ rule. answer_by rule.kind rule.prepend name) (deciding Client rules name) IsUnterminated

-- ---- a name of the host

-- what becomes of a name of the host
pub data HostAnswer : Type 0 where
  IsListed : List ℕ → HostAnswer
  IsHidden : HostAnswer
  IsUndecided : HostAnswer

-- what a rule of that type and prepend makes of a name of the host
abbrev pub host_answer_by : RuleType → List ℕ → List ℕ → HostAnswer
host_answer_by Okay prepend name = IsListed name
host_answer_by Prefix prepend name = IsListed (drop (length prepend) name)
host_answer_by Bad prepend name = IsHidden
host_answer_by Unsupported prepend name = IsHidden

-- what the first rule that fits makes of a name of the host
abbrev pub host_answer : List MappingRule → List ℕ → HostAnswer
host_answer rules name =
    option_map_or (λ rule. host_answer_by rule.kind rule.prepend name) (deciding Server rules name) IsUndecided

-- some rule decides the name
abbrev pub is_decided : HostAnswer → Bool
is_decided (IsListed name) = true
is_decided IsHidden = true
is_decided IsUndecided = false

-- the name under which a name of the host is listed, if it is
abbrev pub listed_name : HostAnswer → Option (List ℕ)
listed_name (IsListed name) = Some name
listed_name IsHidden = None
listed_name IsUndecided = None

-- ---- a list of names of the host

-- the names of a list: what stands between zeros, where that is not empty
abbrev pub names : List ℕ → List (List ℕ)
names list = filter (λ name. not (length name == 0)) (slice_split (λ byte. byte == 0) list)

-- the names as a list, each followed by a zero; one zero where there are none
abbrev pub as_list : List (List ℕ) → List ℕ
as_list [] = 0 ∷ []
as_list (name ∷ names) = flat_map (λ each. each ++ 0 ∷ []) (name ∷ names)

-- the list that the guest gets: none where no rule decides one of the names
abbrev pub server_answer : List MappingRule → List ℕ → Option (List ℕ)
server_answer rules list =
    if list_all (λ name. is_decided (host_answer rules name)) (names list)
    then Some (as_list (filter_map (λ name. listed_name (host_answer rules name)) (names list)))
    else None

-- ---- both ways

-- the guest's name passes, and the host lists what it became as that name
pub record ListsBack (rules : List MappingRule) (name : List ℕ) : Type 0 where
  pub becomes : List ℕ
  pub passes : client_answer rules name ≡ Passes becomes
  pub lists : server_answer rules (becomes ++ 0 ∷ []) ≡ Some (name ++ 0 ∷ [])
