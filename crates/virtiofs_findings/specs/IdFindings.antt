-- What an audit of the ids of users, or of groups, finds.
use Rattle.std.specs.Prelude.{◌≡◌, ◌≢◌, ◌↔◌, ℕ, ◌<◌, IsTrue, List, [], ◌∷◌, Contains, Option, Some, None}
use Rattle.virtiofs_id_audit.specs.IdAudit.{IsLeastId, GoesTo, WanderTo, IsAstray, GoesInto, Hold, AreRuns}
use Rattle.virtiofs_map.specs.Mapping.{Covers}
use Rattle.virtiofs_map.specs.declared.cmdline.IdMap.{IdMap}
use Rattle.virtiofs_map.specs.declared.soft_idmap.entry.Direction.{Direction}
use Rattle.virtiofs_map.specs.declared.soft_idmap.entry.Direction.TheVariants.{GuestToHost}
use Rattle.virtiofs_map.specs.declared.idmap.UidMap.{UidMap}
use Rattle.virtiofs_id_audit.specs.Namespace.{IsLacking, IsRoot, StandsFor}
use Rattle.virtiofs_findings.specs.declared.ids.found.IdsFound.{IdsFound}
use Rattle.virtiofs_findings.specs.declared.ids.found.IdFindings.{IdFindings}

-- all ids that are bad, as runs in order, and what is told of the least of them
pub record AreAll {A : Type 0} (bad : ℕ → Type 0) (Tells : IdsFound A → Type 0) (found : IdsFound A) : Type 0 where
  pub each : (n : ℕ) → Hold found.ids.items n ↔ bad n
  pub runs : AreRuns found.ids.items
  pub least : IsLeastId bad found.guest
  pub tells : Tells found

-- None where no id is bad, and else all that are
abbrev pub FindsAll : {A : Type 0} → (ℕ → Type 0) → (IdsFound A → Type 0) → Option (IdsFound A) → Type 0
FindsAll bad Tells None = (n : ℕ) → ¬ bad n
FindsAll bad Tells (Some found) = AreAll bad Tells found

-- what the id becomes on the host, what that becomes in the guest, and whether this other id becomes that of the host too
pub record TellsAstray {A : Type 0} (specs : List IdMap) (it : IdsFound A) : Type 0 where
  pub wanders : WanderTo specs it.guest it.host it.other
  pub shared : IsTrue it.is_shared ↔ GoesTo specs it.other it.host

-- what the id becomes on the host
abbrev pub TellsHost : {A : Type 0} → List IdMap → IdsFound A → Type 0
TellsHost specs it = GoesTo specs it.guest it.host

-- an id that does not round-trip, and does not become one of these ids
abbrev pub IsAstrayBut : List IdMap → (ℕ → Type 0) → ℕ → Type 0
IsAstrayBut specs besides guest = IsAstray specs guest × (¬ GoesInto specs besides guest)

-- None, or all ids under these specifications that act as root of the host, in a namespace of these ranges
abbrev pub ActAsRoot : {A : Type 0} → List IdMap → List UidMap → Option (IdsFound A) → Type 0
ActAsRoot specs ranges = FindsAll (GoesInto specs (IsRoot ranges)) (TellsHost specs)

-- of the ids under these specifications, in a namespace of these ranges: which do not round-trip, though the namespace
-- has what they become, and which become one that the namespace lacks
pub record FindsIds {A : Type 0} (specs : List IdMap) (ranges : List UidMap) (found : IdFindings A) : Type 0 where
  pub astray : FindsAll (IsAstrayBut specs (IsLacking ranges)) (TellsAstray specs) found.astray
  pub lacking : FindsAll (GoesInto specs (IsLacking ranges)) (TellsHost specs) found.lacking

-- none of the specifications covers the id
abbrev pub CoversNone : List IdMap → Direction → ℕ → Type 0
CoversNone specs direction id = (spec : IdMap) → Contains specs spec → ¬ Covers spec direction id

-- the ids are mapped: some specification is given, and the namespace of these ranges has more ids than the daemon's own
pub record AreMapped (specs : List IdMap) (ranges : List UidMap) : Type 0 where
  pub some : specs ≢ []
  pub more : (range : UidMap) → ranges ≡ range ∷ [] → range.count ≢ 1

-- where ids are mapped, an id of the guest that no specification covers, and that is, outside the namespace of these
-- ranges, the id of the host of the same number
pub record IsKept (specs : List IdMap) (ranges : List UidMap) (guest : ℕ) : Type 0 where
  pub mapped : AreMapped specs ranges
  pub is_id : guest < 4294967295
  pub uncovered : CoversNone specs GuestToHost guest
  pub same : StandsFor ranges guest guest

-- it is told as the id of the host of its number
abbrev pub TellsKept : {A : Type 0} → IdsFound A → Type 0
TellsKept it = it.host ≡ it.guest

-- None, or all ids that keep their number
abbrev pub FindsKept : {A : Type 0} → List IdMap → List UidMap → Option (IdsFound A) → Type 0
FindsKept specs ranges = FindsAll (IsKept specs ranges) TellsKept

-- some id of the guest is that id of the host, outside the namespace of these ranges; 4294967295 is none
abbrev pub ReachedOutside : List IdMap → List UidMap → ℕ → Type 0
ReachedOutside specs ranges outside =
    (outside < 4294967295) × ((guest : ℕ) × GoesInto specs (StandsFor ranges outside) guest)

-- outside the first namespace, the id inside it is one of the host that the other guest reaches
abbrev pub Meets : List UidMap → List IdMap → List UidMap → ℕ → Type 0
Meets ranges others other_ranges inside =
    (outside : ℕ) × StandsFor ranges outside inside × ReachedOutside others other_ranges outside

-- an id of the host that the id is, and the least id of the other guest that is it too
pub record TellsMeeting {A : Type 0} (specs : List IdMap) (ranges : List UidMap) (others : List IdMap)
    (other_ranges : List UidMap) (it : IdsFound A) : Type 0 where
  pub is : GoesInto specs (StandsFor ranges it.host) it.guest
  pub other : IsLeastId (GoesInto others (StandsFor other_ranges it.host)) it.other

-- None, or all ids of the first guest that are, outside the namespaces, ids of the host that the second reaches too
abbrev pub FindsMeeting : {A : Type 0} → List IdMap → List UidMap → List IdMap → List UidMap → Option (IdsFound A)
    → Type 0
FindsMeeting specs ranges others other_ranges =
    FindsAll (GoesInto specs (Meets ranges others other_ranges)) (TellsMeeting specs ranges others other_ranges)
