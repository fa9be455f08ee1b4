-- What the calls on attribute names tell.
use Rattle.std.specs.Prelude.{◌≡◌, ◌⊎◌, ℕ, ◌<◌, ◌≤◌, Bool, true, false, List, ◌++◌, length, take, drop, Option, Some}
use Rattle.std.specs.Prelude.{None, ◌==◌, if◌then◌else◌, [], ◌∷◌}
use Rattle.std.specs.List.{before_first, list_all, flat_map}
use Rattle.std.specs.Global.{Global}
use Rattle.virtiofs_map.specs.Audit.{AnswersLeast}
use Rattle.virtiofs_map.specs.Names.{ClientAnswer, Passes, IsDenied, IsUnsupported, IsUnterminated, client_answer}
use Rattle.virtiofs_map.specs.Names.{HostAnswer, IsListed, IsHidden, IsUndecided, host_answer, is_decided, names}
use Rattle.virtiofs_map.specs.NamesImage.{HasImage, image_length}
use Rattle.virtiofs_map.specs.Rule.{MappingRule}
use Rattle.virtiofs_map.specs.declared.audit.answer.Audit.{Audit}
use Rattle.virtiofs_map.specs.declared.audit.answer.Audit.TheVariants.{Yes, No}
use Rattle.virtiofs_map.specs.declared.xattrmap.image.Decision.{Decision}
use Rattle.virtiofs_map.specs.declared.xattrmap.image.Decision.TheVariants as decisions
use Rattle.virtiofs_map_c.specs.Faults.{ok, as_it_is, denied, unsupported, unterminated, no_room, no_memory, no_map}
use Rattle.virtiofs_map_c.specs.Faults.{hidden}
use Rattle.virtiofs_map_c.specs.Replies.{TellsBytes, TellsCode}
use Rattle.virtiofs_map_c.specs.Wholes.{IsNameMap, cleared}
use Rattle.virtiofs_map_c.specs.declared.names.shown.Shown.{Shown}
use Rattle.virtiofs_map_c.specs.declared.names.shown.Shown.TheVariants as seen

-- ---- making

-- The map of the rules has so many bytes. It is the beginning of the bytes, and the rest of them is as it was; or it has
-- more bytes than there are, and the first of them is 0.
abbrev pub TellsNames : List MappingRule → List ℕ → ℕ → ℕ → List ℕ → Type 0
TellsNames rules old code wanted new =
    ((code ≡ ok) × (wanted ≡ image_length rules) × (wanted ≤ length old) × IsNameMap rules (take wanted new)
    × (drop wanted new ≡ drop wanted old))
    ⊎ ((code ≡ no_room) × (length old < wanted) × HasImage rules wanted × (new ≡ cleared old))

-- ---- a name from the guest

-- what is decided of a name is told
abbrev pub TellsDecision : Decision → List ℕ → List ℕ → ℕ → ℕ → List ℕ → Type 0
TellsDecision decisions.NoMap name old code len new = TellsCode no_map old code len new
TellsDecision decisions.Undecided name old code len new = TellsCode unterminated old code len new
TellsDecision decisions.Okay name old code len new = TellsCode as_it_is old code len new
TellsDecision (decisions.Prefix prepend) name old code len new = TellsBytes (prepend.now ++ name) ok old code len new
TellsDecision decisions.Bad name old code len new = TellsCode denied old code len new
TellsDecision decisions.Unsupported name old code len new = TellsCode unsupported old code len new

-- what becomes of a name that the guest asks for
abbrev pub TellsClient : ClientAnswer → List ℕ → List ℕ → ℕ → ℕ → List ℕ → Type 0
TellsClient (Passes host) name old code len new =
    ((host ≡ name) × TellsCode as_it_is old code len new) ⊎ TellsBytes host ok old code len new
TellsClient IsDenied name old code len new = TellsCode denied old code len new
TellsClient IsUnsupported name old code len new = TellsCode unsupported old code len new
TellsClient IsUnterminated name old code len new = TellsCode unterminated old code len new

-- what is told of any bytes: what becomes of the name that stands before their first zero
abbrev pub AnswersClient : List MappingRule → List ℕ → List ℕ → ℕ → ℕ → List ℕ → Type 0
AnswersClient rules bytes old code len new =
    TellsClient (client_answer rules (before_first (λ byte. byte == 0) bytes)) (before_first (λ byte. byte == 0) bytes)
    old code len new

-- the codes that the call has
abbrev pub IsClientCode : ℕ → Type 0
IsClientCode code =
    (code ≡ ok)
    ⊎ ((code ≡ as_it_is)
    ⊎ ((code ≡ denied)
    ⊎ ((code ≡ unsupported) ⊎ ((code ≡ unterminated) ⊎ ((code ≡ no_room) ⊎ (code ≡ no_map))))))

-- ---- a list of the host

-- The list that the guest gets is the beginning of the buffer, and the rest of it is as it was; or the list does not
-- fit. The length is told.
abbrev pub TellsServer : Option (List ℕ) → List ℕ → ℕ → ℕ → List ℕ → Type 0
TellsServer None old code len new = (code ≡ unterminated) × (len ≡ 0)
TellsServer (Some list) old code len new =
    (len ≡ length list)
    × (((code ≡ ok) × (new ≡ list ++ drop (length list) old)) ⊎ ((code ≡ no_room) × (length old < length list)))

-- ---- decisions about all names

-- a code that comes with no answer
pub record TellsNo (told : ℕ) (old : List ℕ) (code : ℕ) (all : Bool) (len : ℕ) (new : List ℕ) : Type 0 where
  pub told_so : TellsCode told old code len new
  pub none : all ≡ false

-- what an audit found: yes, or no with a name
abbrev pub TellsFound : {A : Type 0} → Audit A → List ℕ → ℕ → Bool → ℕ → List ℕ → Type 0
TellsFound Yes old code all len new = TellsCode ok old code len new × (all ≡ true)
TellsFound (No name) old code all len new = TellsBytes name ok old code len new × (all ≡ false)

-- the least name that is bad is told, or that there is none; or out of memory
abbrev pub TellsLeast : (List ℕ → Type 0) → List ℕ → ℕ → Bool → ℕ → List ℕ → Type 0
TellsLeast bad old code all len new =
    ((audit : Audit Global) × AnswersLeast bad audit × TellsFound audit old code all len new)
    ⊎ TellsNo no_memory old code all len new

-- ---- what the guest sees of the host's names: under which name, and in a list that a daemon hands on

-- a name that would be seen as the empty name is hidden, since the empty name is none
abbrev pub without_empty : HostAnswer → HostAnswer
without_empty (IsListed []) = IsHidden
without_empty answer = answer

-- what the guest sees of a name of the host
abbrev pub shown_as : List MappingRule → List ℕ → HostAnswer
shown_as rules name = without_empty (host_answer rules name)

-- the part of a list that a name comes to: what the guest sees of it, and a zero; nothing of a name that is hidden
abbrev pub part_of : HostAnswer → List ℕ
part_of (IsListed name) = name ++ 0 ∷ []
part_of answer = []

-- the list that a daemon hands on: none where no rule decides one of the names
abbrev pub shown_list : List MappingRule → List ℕ → Option (List ℕ)
shown_list rules list =
    if list_all (λ name. is_decided (shown_as rules name)) (names list)
    then Some (flat_map (λ name. part_of (shown_as rules name)) (names list))
    else None

-- what is seen of a name is this
abbrev pub IsShownAs : HostAnswer → Shown → Type 0
IsShownAs answer seen.NoMap = ⊥
IsShownAs answer seen.Undecided = answer ≡ IsUndecided
IsShownAs answer seen.Hidden = answer ≡ IsHidden
IsShownAs answer (seen.Name shown) = answer ≡ IsListed shown.now

-- what the guest sees of a name is told
abbrev pub TellsShown : HostAnswer → List ℕ → ℕ → ℕ → List ℕ → Type 0
TellsShown (IsListed name) old code len new = TellsBytes name ok old code len new
TellsShown IsHidden old code len new = TellsCode hidden old code len new
TellsShown IsUndecided old code len new = TellsCode unterminated old code len new

-- the codes that the call has
abbrev pub IsShownCode : ℕ → Type 0
IsShownCode code =
    (code ≡ ok) ⊎ ((code ≡ hidden) ⊎ ((code ≡ unterminated) ⊎ ((code ≡ no_room) ⊎ (code ≡ no_map))))

-- ---- how a list is read and written

-- how many bytes are seen of a name
abbrev pub shown_length : Shown → ℕ
shown_length (seen.Name shown) = length shown.now
shown_length other = 0

-- this is seen of the first name of a list, and the rest has the other names; or the rest has all names, and nothing is
-- seen
abbrev pub IsFirstShown : List MappingRule → List ℕ → Shown → List ℕ → Type 0
IsFirstShown rules list shown rest =
    ((names list ≡ names rest) × (shown ≡ seen.Hidden))
    ⊎ ((name : List ℕ) × (names list ≡ name ∷ names rest) × IsShownAs (shown_as rules name) shown)
