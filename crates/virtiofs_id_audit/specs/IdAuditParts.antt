-- What the parts of the audits of ids say. Only private functions cite these definitions.
use Rattle.std.specs.Prelude.{◌≡◌, ◌≢◌, ◌⊎◌, ◌↔◌, ◌&&◌, if◌then◌else◌, ℕ, ◌+◌, ◌-◌, ◌<◌, ◌≤◌, nat_le, Bool, true, false}
use Rattle.std.specs.Prelude.{List, All, Option, Some, None, sum_by}
use Rattle.virtiofs_id_audit.specs.IdAudit.{GoesTo, GoesInto, IsAstray, Hold, AreRuns}
use Rattle.virtiofs_id_audit.specs.Mending.{IsBad}
use Rattle.virtiofs_id_audit.specs.declared.extents.runs.Sought.{Sought}
use Rattle.virtiofs_id_audit.specs.declared.extents.runs.Sought.TheVariants.{Into, OnlyAstray, Bad}
use Rattle.virtiofs_id_audit.specs.declared.spans.Run.{Run}
use Rattle.virtiofs_id_audit.specs.declared.spans.Span.{Span}
use Rattle.virtiofs_map.specs.Mapping.{Becomes}
use Rattle.virtiofs_map.specs.Pieces.{value_in}
use Rattle.virtiofs_map.specs.declared.cmdline.IdMap.{IdMap}
use Rattle.virtiofs_map.specs.declared.soft_idmap.entry.Direction.TheVariants.{GuestToHost, HostToGuest}
use Rattle.virtiofs_map.specs.declared.soft_idmap.piece.Piece.{Piece}

-- ---- there and back

-- what becomes of an id there and back: nothing where it is forbidden, and else what its id of the host becomes
abbrev pub ComesBackAs : List IdMap → ℕ → Option ℕ → Type 0
ComesBackAs specs n value =
    (Becomes specs GuestToHost n None × (value ≡ None))
    ⊎ ((host : ℕ) × Becomes specs GuestToHost n (Some host) × Becomes specs HostToGuest host value)

-- the piece says what each of its numbers comes back as
abbrev pub ReturnsBy : List IdMap → Piece → Type 0
ReturnsBy specs trip = (n : ℕ) → trip.first ≤ n → n ≤ trip.last → ComesBackAs specs n (value_in trip n)

-- the number of the piece becomes one of these
abbrev pub BecomesOne : Piece → (ℕ → Type 0) → ℕ → Type 0
BecomesOne piece hosts n = (host : ℕ) × (value_in piece n ≡ Some host) × hosts host

-- it becomes another one
abbrev pub IsMoved : Piece → ℕ → Type 0
IsMoved piece n = BecomesOne piece (λ value. value ≢ n) n

-- ---- spans of ids

-- the span has an id, and only ids
abbrev pub IsSpan : Span → Type 0
IsSpan span = (span.first ≤ span.last) × (span.last ≤ 4294967295)

-- each span has an id, and an id lies between each and those after it, and between the last and that one
pub record RunsBelow (next : ℕ) (spans : List Span) : Type 0 where
  pub runs : AreRuns spans
  pub below : All (λ span. span.last + 1 < next) spans

-- the spans have those of the ids below an end that are such
abbrev pub HoldBelow : (ℕ → Type 0) → ℕ → List Span → Type 0
HoldBelow such end spans = (id : ℕ) → Hold spans id ↔ ((id < end) × such id)

-- how many of the spans have the id
abbrev pub has_times : ℕ → Span → ℕ
has_times id span = if nat_le span.first id && nat_le id span.last then 1 else 0

abbrev pub times : List Span → ℕ → ℕ
times spans id = sum_by (has_times id) spans

-- ---- what the guest reaches

-- the number is 1 at least where an id of the guest from low up to high becomes the id of the host, and 2 at least
-- where two do
pub record CountsGuests (specs : List IdMap) (low high host number : ℕ) : Type 0 where
  pub one : (1 ≤ number) ↔ ((n : ℕ) × (low ≤ n) × (n < high) × GoesTo specs n host)
  pub two : (2 ≤ number) ↔ ((n m : ℕ) × (low ≤ n) × (n < m) × (m < high) × GoesTo specs n host × GoesTo specs m host)

-- the spans have the ids of the host that the guest reaches, as often as it reaches each, up to twice
abbrev pub AreImages : List IdMap → List Span → Type 0
AreImages specs images = (host : ℕ) → CountsGuests specs 0 4294967296 host (times images host)

-- ---- which ids of the guest are sought

-- the id of the guest is one of those that are sought
abbrev pub IsSought : Sought → List IdMap → (ℕ → Type 0) → ℕ → Type 0
IsSought Into specs hosts guest = GoesInto specs hosts guest
IsSought OnlyAstray specs hosts guest = IsAstray specs guest × (¬ GoesInto specs hosts guest)
IsSought Bad specs hosts guest = IsBad specs hosts guest

-- those that are bad, or those that are astray alone
abbrev pub of_bad : Bool → Sought
of_bad true = Bad
of_bad false = OnlyAstray

-- the numbers of the run, from first on and not above last, are all such, or none of them is
pub record IsRun (such : ℕ → Type 0) (first last : ℕ) (run : Run) : Type 0 where
  pub from : first ≤ run.last
  pub to : run.last ≤ last
  pub each : (n : ℕ) → first ≤ n → n ≤ run.last → (run.all ≡ true) ↔ such n

-- where an id of the host becomes an id of the guest that is none of the starts, the one before it becomes the one before
-- that
abbrev pub AreStarts : List IdMap → List Span → Type 0
AreStarts specs starts = (host guest : ℕ) → 1 ≤ host → host ≤ 4294967295 → Becomes specs HostToGuest host (Some guest)
    → Hold starts guest ⊎ Becomes specs HostToGuest (host - 1) (Some (guest - 1))
