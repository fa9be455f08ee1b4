-- What an audit decides of a map, for all names.
use Rattle.std.specs.Prelude.{◌≡◌, ◌≢◌, ◌⊎◌, ℕ, ◌+◌, ◌*◌, ◌<◌, true, List, [], ◌∷◌, All, count_by, slice_get, Some}
use Rattle.std.specs.Prelude.{None, ◌≤◌, length}
use Rattle.std.specs.Ordering.{nat_cmp}
use Rattle.std.specs.declared.cmp.Ordering.TheVariants.{Less}
use Rattle.std.specs.Cmp.Lexicographic.{slice_cmp}
use Rattle.virtiofs_map.specs.FirstRule.{acts, pattern}
use Rattle.virtiofs_map.specs.MapRule.{IsName}
use Rattle.virtiofs_map.specs.Names.{begins, first, Passes, IsUnterminated, client_answer, IsListed, IsHidden}
use Rattle.virtiofs_map.specs.Names.{host_answer, names, server_answer, ListsBack}
use Rattle.virtiofs_map.specs.Rule.{MappingRule}
use Rattle.virtiofs_map.specs.declared.audit.answer.Audit.{Audit}
use Rattle.virtiofs_map.specs.declared.audit.answer.Audit.TheVariants.{Yes, No}
use Rattle.virtiofs_map.specs.declared.audit.asking.NameFault.{NameFault}
use Rattle.virtiofs_map.specs.declared.audit.asking.NameFault.TheVariants.{Lost, Stray, Seen, Shared}
use Rattle.virtiofs_map.specs.declared.xattrmap.scopes.Side.{Side}

-- ---- the least name that is bad

-- byte by byte, the name comes before the other; the beginning of a name comes before the name
abbrev pub IsBefore : List ℕ → List ℕ → Type 0
IsBefore name other = slice_cmp nat_cmp name other ≡ Less

-- the name is bad, and no bad name comes before it
pub record IsLeast (bad : List ℕ → Type 0) (name : List ℕ) : Type 0 where
  pub is_bad : bad name
  pub none_before : (other : List ℕ) → bad other → ¬ IsBefore other name

-- `Yes` if no name is bad, and else `No` with the least bad name
abbrev pub AnswersLeast : {A : Type 0} → (List ℕ → Type 0) → Audit A → Type 0
AnswersLeast bad Yes = (name : List ℕ) → ¬ bad name
AnswersLeast bad (No name) = IsLeast bad name

-- the name is bad, and begins with these bytes
pub record Within (beginning : List ℕ) (bad : List ℕ → Type 0) (name : List ℕ) : Type 0 where
  pub is_bad : bad name
  pub front : begins beginning name ≡ true

-- ---- does every name list back

-- each non-empty name that passes is listed back
abbrev pub Sound : List MappingRule → Type 0
Sound rules = (name host : List ℕ) → IsName name → name ≢ [] → client_answer rules name ≡ Passes host
    → ListsBack rules name

-- a non-empty name that passes and is not listed back
pub record IsLost (rules : List MappingRule) (name : List ℕ) : Type 0 where
  pub is_name : IsName name
  pub not_empty : name ≢ []
  pub host : List ℕ
  pub passes : client_answer rules name ≡ Passes host
  pub not_back : ¬ ListsBack rules name

-- the most names that are tried: those of one byte, one for each rule of the client's side, and one for each of these
-- with each rule of the server's side
abbrev pub most_tried : List MappingRule → ℕ
most_tried rules =
    255 + count_by (λ rule. rule.client) rules + count_by (λ rule. rule.client) rules * count_by (λ rule. rule.server)
    rules

-- ---- does a listed name open its host name

-- for each non-empty host name that is listed: the name under which it is listed passes, and becomes that host name
abbrev pub OpensListed : List MappingRule → Type 0
OpensListed rules = (host name : List ℕ) → IsName host → host ≢ [] → host_answer rules host ≡ IsListed name
    → client_answer rules name ≡ Passes host

-- a non-empty host name that is listed under a name that does not pass, or becomes another host name
pub record IsStray (rules : List MappingRule) (host : List ℕ) : Type 0 where
  pub is_name : IsName host
  pub not_empty : host ≢ []
  pub name : List ℕ
  pub listed : host_answer rules host ≡ IsListed name
  pub not_opened : client_answer rules name ≢ Passes host

-- ---- are two guests on one host kept apart

-- a non-empty host name that the guest reaches: some name, perhaps the empty one, passes and becomes that host name
pub record Reached (rules : List MappingRule) (host : List ℕ) : Type 0 where
  pub is_host : IsName host
  pub not_empty : host ≢ []
  pub name : List ℕ
  pub is_name : IsName name
  pub passes : client_answer rules name ≡ Passes host

-- the second map hides each host name that the first one reaches
abbrev pub Apart : List MappingRule → List MappingRule → Type 0
Apart rules others = (host : List ℕ) → Reached rules host → host_answer others host ≡ IsHidden

-- a name that passes and becomes a non-empty host name which the second map does not hide
pub record IsSeen (rules others : List MappingRule) (name : List ℕ) : Type 0 where
  pub is_name : IsName name
  pub host : List ℕ
  pub is_host : IsName host
  pub not_empty : host ≢ []
  pub passes : client_answer rules name ≡ Passes host
  pub not_hidden : host_answer others host ≢ IsHidden

-- the rest is the names in their order, those of the set left out
abbrev pub Leaves : (List ℕ → Type 0) → List (List ℕ) → List (List ℕ) → Type 0
Leaves set [] rest = rest ≡ []
Leaves set (name ∷ names) rest =
    (set name × Leaves set names rest)
    ⊎ ((¬ set name) × (more : List (List ℕ)) × (rest ≡ name ∷ more) × Leaves set names more)

-- the two lists hold the same names in the same order, once those of the set are left out of both
abbrev pub AgreeOutside : (List ℕ → Type 0) → List ℕ → List ℕ → Type 0
AgreeOutside set list other = (rest : List (List ℕ)) × Leaves set (names list) rest × Leaves set (names other) rest

-- a list from the host: bytes, zeros among them
abbrev pub IsList : List ℕ → Type 0
IsList list = All (λ byte. byte < 256) list

-- names that the first map reaches make no difference to what the second map answers for a list
abbrev pub Isolated : List MappingRule → List MappingRule → Type 0
Isolated rules others =
    (list other : List ℕ) → IsList list → IsList other → AgreeOutside (Reached rules) list other
    → server_answer others list ≡ server_answer others other

-- ---- do two guests reach one host name

-- no non-empty host name is reached by both
abbrev pub SharesNoName : List MappingRule → List MappingRule → Type 0
SharesNoName rules others = (host : List ℕ) → Reached rules host → ¬ Reached others host

-- a name that passes and becomes a non-empty host name which the second map reaches too
pub record IsShared (rules others : List MappingRule) (name : List ℕ) : Type 0 where
  pub is_name : IsName name
  pub host : List ℕ
  pub passes : client_answer rules name ≡ Passes host
  pub reached : Reached others host

-- ---- does some rule decide every name

-- neither a name of the guest nor a list of the host is ever without a rule
pub record Terminated (rules : List MappingRule) : Type 0 where
  pub client : (name : List ℕ) → IsName name → client_answer rules name ≢ IsUnterminated
  pub server : (list : List ℕ) → IsList list → server_answer rules list ≢ None

-- ---- does a rule decide any name

-- the rule at that place, counted from 0, decides a name of that side: it is the first that fits the name
pub record DecidesOn (side : Side) (rules : List MappingRule) (place : ℕ) : Type 0 where
  pub name : List ℕ
  pub is_name : IsName name
  pub is_first : first side rules name ≡ Some place

-- it decides a name of the guest or a name of the host
abbrev pub Decides : List MappingRule → ℕ → Type 0
Decides rules place = (side : Side) × DecidesOn side rules place

-- before that place stands a rule for that side whose pattern begins this one, so that it takes each name that begins
-- with this one
pub record IsTaken (side : Side) (rules : List MappingRule) (place : ℕ) (taken : List ℕ) : Type 0 where
  pub earlier : ℕ
  pub before : earlier < place
  pub rule : MappingRule
  pub here : slice_get rules earlier ≡ Some rule
  pub acting : acts side rule ≡ true
  pub front : begins (pattern side rule) taken ≡ true

-- if the rule at that place acts on that side, its pattern is taken there
abbrev pub IsShadowedOn : Side → List MappingRule → ℕ → Type 0
IsShadowedOn side rules place =
    (rule : MappingRule) → slice_get rules place ≡ Some rule → acts side rule ≡ true
    → IsTaken side rules place (pattern side rule)

-- that holds of both sides
abbrev pub IsShadowed : List MappingRule → ℕ → Type 0
IsShadowed rules place = (side : Side) → IsShadowedOn side rules place

-- ---- how much longer names become

-- a name of the guest passes, and becomes longer by that many bytes
pub record AddsTo (rules : List MappingRule) (count : ℕ) : Type 0 where
  pub name : List ℕ
  pub host : List ℕ
  pub is_name : IsName name
  pub passes : client_answer rules name ≡ Passes host
  pub longer : length host ≡ length name + count

-- no name of the guest becomes longer by more bytes, and one becomes longer by as many, unless that is 0
pub record IsMostAdded (rules : List MappingRule) (most : ℕ) : Type 0 where
  pub at_most : (name host : List ℕ) → IsName name → client_answer rules name ≡ Passes host
      → length host ≤ length name + most
  pub reached : (most ≡ 0) ⊎ AddsTo rules most

-- ---- what may be wrong with a name

-- the name has this fault under these rules, where another guest has the other rules
abbrev pub HasFault : NameFault → List MappingRule → List MappingRule → List ℕ → Type 0
HasFault Lost rules others = IsLost rules
HasFault Stray rules others = IsStray rules
HasFault Seen rules others = IsSeen rules others
HasFault Shared rules others = IsShared rules others
