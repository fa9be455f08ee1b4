-- What a lookup of an id tells its caller, and what decisions about all ids tell.
use Rattle.std.specs.Prelude.{◌≡◌, ◌≢◌, ◌⊎◌, ◌==◌, ◌||◌, ℕ, Bool, true, false, List, Option, Some, None, not, length}
use Rattle.virtiofs_map.specs.Mapping.{Becomes}
use Rattle.virtiofs_map.specs.MappingLaws.{IsMappedBothWays, LeadsBack}
use Rattle.virtiofs_map.specs.declared.cmdline.IdMap.{IdMap as Specification}
use Rattle.virtiofs_map.specs.declared.soft_idmap.entry.Direction.{Direction}
use Rattle.virtiofs_map.specs.declared.soft_idmap.row.Answer.{Answer}
use Rattle.virtiofs_map.specs.declared.soft_idmap.row.Answer.TheVariants as answers
use Rattle.virtiofs_map_c.specs.Faults.{ok, forbidden, no_map, no_id}
use Rattle.virtiofs_id_audit.specs.IdAudit.{IsLeastId, GoesTo, WanderTo, SharedAs}
use Rattle.virtiofs_map_c.specs.Arrays.{ArrayFault, HasArrayFault, IsAccepted, counted_on}
use Rattle.virtiofs_map_c.specs.declared.arrays.Spec.{Spec}
use Rattle.virtiofs_map_c.specs.declared.ids.audits.IdsFound.{IdsFound}

-- ---- one id

-- the number that an id becomes is written, but not if one of the two is 4294967295, which is no id to Linux
abbrev pub TellsNumber : Bool → ℕ → ℕ → ℕ → ℕ → Type 0
TellsNumber false n old code new = (code ≡ ok) × (new ≡ n)
TellsNumber true n old code new = (code ≡ no_id) × (new ≡ old)

-- what an id becomes is told; where its use fails, nothing is written
abbrev pub TellsId : ℕ → Option ℕ → ℕ → ℕ → ℕ → Type 0
TellsId id (Some n) old code new = TellsNumber (id == 4294967295 || n == 4294967295) n old code new
TellsId id None old code new = (code ≡ forbidden) × (new ≡ old)

-- what the specifications make of an id is told
abbrev pub AnswersId : List Specification → Direction → ℕ → ℕ → ℕ → ℕ → Type 0
AnswersId specs direction id old code new =
    (value : Option ℕ) × Becomes specs direction id value × TellsId id value old code new

-- an id that a `map` covers is mapped, unless to what is no id, and what it becomes leads back
abbrev pub LeadsBackIfMapped : List Specification → Direction → ℕ → ℕ → ℕ → Type 0
LeadsBackIfMapped specs direction id code new =
    IsMappedBothWays specs direction id → code ≢ no_id → (code ≡ ok) × LeadsBack specs direction id new

-- only with the code of success is a number written, and it is an id; there are three other codes
abbrev pub IsIdCode : ℕ → ℕ → ℕ → Type 0
IsIdCode old code new =
    ((code ≡ ok) × (new ≢ 4294967295)) ⊎ (((code ≡ forbidden) ⊎ ((code ≡ no_map) ⊎ (code ≡ no_id))) × (new ≡ old))

-- what is said of the id is told
abbrev pub IsAnswerTold : Answer → ℕ → ℕ → ℕ → ℕ → Type 0
IsAnswerTold (answers.Becomes n) id old code new = TellsId id (Some n) old code new
IsAnswerTold answers.Fails id old code new = TellsId id None old code new
IsAnswerTold answers.NoImage id old code new = (code ≡ no_map) × (new ≡ old)

-- ---- the least id

-- yes where no id is bad, and then nothing is written; and else no, with the least one that is, and what is told of it
abbrev pub TellsAudit : (ℕ → Type 0) → (IdsFound → Type 0) → Bool → IdsFound → IdsFound → Type 0
TellsAudit bad tells true old new = ((n : ℕ) → ¬ bad n) × (new ≡ old)
TellsAudit bad tells false old new = IsLeastId bad new.guest × tells new

-- yes where some id reaches, with the least one that does, and else no
abbrev pub TellsReach : (ℕ → Type 0) → (IdsFound → Type 0) → Bool → IdsFound → IdsFound → Type 0
TellsReach reaching tells is_there old new = TellsAudit reaching tells (not is_there) old new

-- ---- what is told of an id

-- what it becomes on the host, and what that becomes in the guest
abbrev pub IsAstrayTold : List Specification → IdsFound → Type 0
IsAstrayTold specs it = WanderTo specs it.guest it.host it.other

-- the least id with which it shares its id of the host, and that id
abbrev pub IsSharedTold : List Specification → IdsFound → Type 0
IsSharedTold specs it = SharedAs specs it.guest it.other it.host

-- what it becomes on the host, and no second id
abbrev pub IsReachTold : List Specification → IdsFound → Type 0
IsReachTold specs it = GoesTo specs it.guest it.host × (it.other ≡ 0)

-- what it becomes on the host, and the least id of the other guest that becomes that too
abbrev pub IsMeetingTold : List Specification → List Specification → IdsFound → Type 0
IsMeetingTold specs others it =
    GoesTo specs it.guest it.host × IsLeastId (λ n. GoesTo others n it.host) it.other

-- ---- two arrays

-- the array has a fault, which is told as that where so many places stand before
pub record HasFaultAfter (count : ℕ) (specs : List Spec) (fault : ArrayFault) : Type 0 where
  pub wrong : ArrayFault
  pub has : HasArrayFault specs wrong
  pub as_told : fault ≡ counted_on count wrong

-- the first array has the fault; or a map is made of the first, and the second has it
abbrev pub HasPairFault : List Spec → List Spec → ArrayFault → Type 0
HasPairFault specs others fault =
    HasArrayFault specs fault ⊎ (IsAccepted specs × HasFaultAfter (length specs) others fault)
