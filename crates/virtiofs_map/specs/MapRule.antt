-- What a single map rule means, stated by its key and its prepend alone, in bytes.
use Rattle.std.specs.Prelude.{◌≡◌, ◌≢◌, ◌⊎◌, ℕ, ◌<◌, Bool, true, false, not, if◌then◌else◌, List, [], ◌∷◌, ◌++◌, length}
use Rattle.std.specs.Prelude.{drop, filter, encode_utf8_all, All, Some, None}
use Rattle.std.specs.List.{filter_map}
use Rattle.virtiofs_map.specs.Rule.{MappingRule}
use Rattle.virtiofs_map.specs.RuleText.{RuleAsWritten, Map, RuleText, expanded}
use Rattle.virtiofs_map.specs.Names.{begins, ClientAnswer, Passes, IsDenied, IsUnterminated, client_answer, HostAnswer}
use Rattle.virtiofs_map.specs.Names.{IsListed, IsHidden, host_answer, listed_name, names, as_list, server_answer}
use Rattle.virtiofs_map.specs.Names.{ListsBack}

-- a name that starts with the key passes with the prepend before it; any other name that starts with the prepend is
-- denied
abbrev pub map_client : List ℕ → List ℕ → List ℕ → ClientAnswer
map_client key prepend name =
    if begins key name then Passes (prepend ++ name)
    else if begins prepend name then IsDenied
    else Passes name

-- a host name that starts with the prepend is listed without it; any other host name that starts with the key is
-- hidden
abbrev pub map_server : List ℕ → List ℕ → List ℕ → HostAnswer
map_server key prepend name =
    if begins prepend name then IsListed (drop (length prepend) name)
    else if begins key name then IsHidden
    else IsListed name

-- a name: each byte is 1 to 255
abbrev pub IsName : List ℕ → Type 0
IsName name = All (λ byte. (0 < byte) × (byte < 256)) name

-- the list of the names that one map rule lists
abbrev pub map_list : List ℕ → List ℕ → List ℕ → List ℕ
map_list key prepend list = as_list (filter_map (λ name. listed_name (map_server key prepend name)) (names list))

-- The rules mean what one map rule with that key and prepend means.
pub record IsMapRule (key prepend : List ℕ) (rules : List MappingRule) : Type 0 where
  pub client : (name : List ℕ) → client_answer rules name ≡ map_client key prepend name
  pub host : (name : List ℕ) → host_answer rules name ≡ map_server key prepend name
  pub server : (list : List ℕ) → server_answer rules list ≡ Some (map_list key prepend list)
  -- a name that the guest may use is listed to it as the same name
  pub lists_back : (name host : List ℕ) → IsName name → client_answer rules name ≡ Passes host → ListsBack rules name
  pub client_terminated : (name : List ℕ) → client_answer rules name ≢ IsUnterminated
  pub server_terminated : (list : List ℕ) → server_answer rules list ≢ None
  -- if the key is not empty, a name that passes starts, on the host, with the prepend followed by the key, or with
  -- neither of the two
  pub fronts : (name host : List ℕ) → key ≢ [] → client_answer rules name ≡ Passes host
      → (begins (prepend ++ key) host ≡ true) ⊎ ((begins key host ≡ false) × (begins prepend host ≡ false))
  -- if the key is empty, a name under which a host name is listed passes, and becomes that host name
  pub way_back : (name host : List ℕ) → key ≡ [] → host_answer rules host ≡ IsListed name
      → client_answer rules name ≡ Passes host

-- one map rule, as it is written, in characters
abbrev pub map_rule : List ℕ → List ℕ → RuleAsWritten
map_rule key prepend = record { head = Map; key = key; prepend = prepend }

-- if the text is one map rule, the rules mean what it means
abbrev pub ReadsMapRule : List ℕ → List MappingRule → Type 0
ReadsMapRule text rules = (key prepend : List ℕ) → RuleText text (map_rule key prepend ∷ [])
    → IsMapRule (encode_utf8_all key) (encode_utf8_all prepend) rules

-- ---- two guests on one host

-- the two lists hold the same names, in the same order, once those of a set are left out of both
abbrev pub Agree : List ℕ → List ℕ → (List ℕ → Bool) → Type 0
Agree list other set = filter (λ name. not (set name)) (names list) ≡ filter (λ name. not (set name)) (names other)

-- if the rules are one map rule with an empty key, names that start with another prepend make no difference to the
-- list, provided that neither prepend is the beginning of the other
abbrev pub KeepsGuestsApart : List MappingRule → List ℕ → Type 0
KeepsGuestsApart rules list =
    (prepend another other : List ℕ) → rules ≡ expanded (map_rule [] prepend ∷ [])
    → begins (encode_utf8_all prepend) another ≡ false → begins another (encode_utf8_all prepend) ≡ false
    → Agree list other (begins another) → server_answer rules list ≡ server_answer rules other
