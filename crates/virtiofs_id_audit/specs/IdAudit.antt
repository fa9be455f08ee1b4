-- What an audit of ids decides of a map, for all ids of the guest.
use Rattle.std.specs.Prelude.{◌≡◌, ◌≢◌, ℕ, ◌+◌, ◌<◌, ◌≤◌, List, All, AllPairs, Contains, Option, Some, None, ⊤}
use Rattle.virtiofs_id_audit.specs.declared.answer.IdAudit.{IdAudit}
use Rattle.virtiofs_id_audit.specs.declared.answer.IdAudit.TheVariants.{Yes, No}
use Rattle.virtiofs_id_audit.specs.declared.spans.Span.{Span}
use Rattle.virtiofs_map.specs.Mapping.{Becomes}
use Rattle.virtiofs_map.specs.MappingLaws.{LeadsBack}
use Rattle.virtiofs_map.specs.declared.cmdline.IdMap.{IdMap}
use Rattle.virtiofs_map.specs.declared.soft_idmap.entry.Direction.TheVariants.{GuestToHost, HostToGuest}

-- ---- the least id that is bad

-- the number is bad, and no lesser one is
pub record IsLeastId (bad : ℕ → Type 0) (n : ℕ) : Type 0 where
  pub is_bad : bad n
  pub none_before : (m : ℕ) → m < n → ¬ bad m

-- None where no number is bad, and else the least that is
abbrev pub IsLeastIfAny : (ℕ → Type 0) → Option ℕ → Type 0
IsLeastIfAny bad None = (n : ℕ) → ¬ bad n
IsLeastIfAny bad (Some n) = IsLeastId bad n

-- Yes where no number is bad, and else No, which names the least that is
abbrev pub AnswersLeastId : {T : Type 0} → (ℕ → Type 0) → (T → ℕ) → IdAudit T → Type 0
AnswersLeastId bad number Yes = (n : ℕ) → ¬ bad n
AnswersLeastId bad number (No told) = IsLeastId bad (number told)

-- what a No tells beside that
abbrev pub IfNo : {T : Type 0} → IdAudit T → (T → Type 0) → Type 0
IfNo Yes P = ⊤
IfNo (No told) P = P told

-- ---- ids of the guest

-- the id of the guest becomes that id of the host; 4294967295, which is no id to Linux, is left out
pub record GoesTo (specs : List IdMap) (guest host : ℕ) : Type 0 where
  pub is_id : guest < 4294967295
  pub becomes : Becomes specs GuestToHost guest (Some host)

-- ---- does every id come back

-- what an id becomes on the host becomes that id again
abbrev pub ComesBack : List IdMap → Type 0
ComesBack specs = (guest host : ℕ) → GoesTo specs guest host → LeadsBack specs GuestToHost guest host

-- an id that does not come back
pub record IsAstray (specs : List IdMap) (guest : ℕ) : Type 0 where
  pub host : ℕ
  pub goes : GoesTo specs guest host
  pub not_back : ¬ LeadsBack specs GuestToHost guest host

-- what the id becomes on the host, and what that becomes in the guest
pub record WanderTo (specs : List IdMap) (guest host back : ℕ) : Type 0 where
  pub goes : GoesTo specs guest host
  pub becomes : Becomes specs HostToGuest host (Some back)

-- ---- has every id a host id of its own

-- no two ids become one id of the host
abbrev pub IsAlone : List IdMap → Type 0
IsAlone specs = (guest other host : ℕ) → GoesTo specs guest host → GoesTo specs other host → guest ≡ other

-- another id becomes the same id of the host
pub record SharesWith (specs : List IdMap) (guest other : ℕ) : Type 0 where
  pub host : ℕ
  pub differ : other ≢ guest
  pub goes : GoesTo specs guest host
  pub other_goes : GoesTo specs other host

-- some other id does
abbrev pub IsShared : List IdMap → ℕ → Type 0
IsShared specs guest = (other : ℕ) × SharesWith specs guest other

-- the least id with which it shares its host id, and that host id
pub record SharedAs (specs : List IdMap) (guest other host : ℕ) : Type 0 where
  pub least : IsLeastId (SharesWith specs guest) other
  pub goes : GoesTo specs guest host

-- ---- does an id reach some of the host

-- the id becomes one of these ids of the host
pub record GoesInto (specs : List IdMap) (hosts : ℕ → Type 0) (guest : ℕ) : Type 0 where
  pub host : ℕ
  pub goes : GoesTo specs guest host
  pub is_one : hosts host

-- the ids from first to last
abbrev pub Between : ℕ → ℕ → ℕ → Type 0
Between first last n = (first ≤ n) × (n ≤ last)

-- ---- do two guests reach no id of the host both

-- some id of the guest becomes that id of the host
abbrev pub ReachedBy : List IdMap → ℕ → Type 0
ReachedBy specs host = (guest : ℕ) × GoesTo specs guest host

-- what the first map reaches, the second does not
abbrev pub AreIdsApart : List IdMap → List IdMap → Type 0
AreIdsApart specs others = (guest host : ℕ) → GoesTo specs guest host → ¬ ReachedBy others host

-- ---- spans of ids

-- the span has the id
abbrev pub Has : Span → ℕ → Type 0
Has span id = (span.first ≤ id) × (id ≤ span.last)

-- one of the spans has it
abbrev pub Hold : List Span → ℕ → Type 0
Hold spans id = (span : Span) × Contains spans span × Has span id

-- each span has an id, and an id lies between each and those after it
pub record AreRuns (spans : List Span) : Type 0 where
  pub some : All (λ span. span.first ≤ span.last) spans
  pub gaps : AllPairs (λ span later. span.last + 1 < later.first) spans
