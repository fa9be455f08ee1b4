-- What is told of a value is what the library answers of it.
use Rattle.std.proofs.Common.{◌≡◌, ◌≢◌, ◌⊎◌, inl, ℕ, List, Result, Ok, Err, arith, rules}
use Rattle.std.specs.Prelude.{IfErr, OnErr}
use Rattle.std.proofs.lemmas.Bool.{false≢true}
use Rattle.virtiofs_acl.specs.ValueChanges.{ChangesList, ChangesRoot}
use Rattle.virtiofs_acl.specs.declared.errors.AclError.{AclError}
use Rattle.virtiofs_acl.specs.declared.errors.CapabilityError.{CapabilityError}
use Rattle.virtiofs_map.specs.declared.cmdline.IdMap.{IdMap as Specification}
use Rattle.virtiofs_map.specs.declared.soft_idmap.entry.Direction.{Direction}
use Rattle.virtiofs_map_c.specs.Faults.{ok, no_map, no_fault}
use Rattle.virtiofs_map_c.specs.Values.{IsAclTold, IsCapabilityTold, IsAnswerTold}
use Rattle.virtiofs_map_c.specs.Values.{ChangesAcl, ChangesCapability, IsAclCode, IsRootCode, IsCapabilityCode, AreIds}
use Rattle.virtiofs_acl.specs.Acl.{IdsBecome, GoesAcross}
use Rattle.virtiofs_map_c.specs.declared.fault.Fault.{Fault}
use Rattle.virtiofs_acl.specs.declared.errors.CapabilityError.TheVariants as capabilities

-- ---- whatever the maps are

-- but where it is done, nothing has changed
pub told_unchanged : {E : Type 0} (is_told : ℕ → Fault → E → Type 0) (answer : Result (Unit {0}) E) (code : ℕ)
    (told : Fault) (old new : List ℕ) → IsAnswerTold is_told answer code told → OnErr answer (new ≡ old) → code ≢ ok
    → new ≡ old
told_unchanged is_told answer code told old new is same failed = grind arith

-- an error has a code of its own
abbrev pub FailsOtherwise : {E : Type 0} → (ℕ → Fault → E → Type 0) → Type 0
FailsOtherwise {E} is_told = (code : ℕ) (told : Fault) (error : E) → is_told code told error
    → (code ≢ ok) × (code ≢ no_map)

pub told_no_fault : {E : Type 0} (is_told : ℕ → Fault → E → Type 0) (answer : Result (Unit {0}) E) (code : ℕ)
    (told : Fault) → FailsOtherwise is_told → IsAnswerTold is_told answer code told → (code ≡ ok) ⊎ (code ≡ no_map)
    → told ≡ no_fault
told_no_fault is_told answer code told fails is without = grind arith

-- ---- the codes of errors

acl_code : (room code : ℕ) (told : Fault) (error : AclError) → IsAclTold room code told error
    → IsAclCode code × (code ≢ ok) × (code ≢ no_map)
acl_code room code told error is = grind arith

capability_code : (code : ℕ) (told : Fault) (error : CapabilityError) → IsCapabilityTold code told error
    → IsCapabilityCode code × (code ≢ ok) × (code ≢ no_map)
capability_code code told error is = grind arith

root_code : (code : ℕ) (told : Fault) (error : CapabilityError) → IsCapabilityTold code told error
    → error ≢ capabilities.RootMoves → IsRootCode code
root_code code told error is other = grind arith

pub acl_fails_otherwise : (room : ℕ) → FailsOtherwise (IsAclTold room)
acl_fails_otherwise room code told error is = let all = acl_code room code told error is in (all.1, all.2)

pub capability_fails_otherwise : FailsOtherwise IsCapabilityTold
capability_fails_otherwise code told error is = let all = capability_code code told error is in (all.1, all.2)

pub tells_acl_code : (room : ℕ) (answer : Result (Unit {0}) AclError) (code : ℕ) (told : Fault)
    → IsAnswerTold (IsAclTold room) answer code told → IsAclCode code
tells_acl_code room (Ok done) code told is = inl is.0
tells_acl_code room (Err error) code told is = (acl_code room code told error is).0

pub tells_capability_code : (answer : Result (Unit {0}) CapabilityError) (code : ℕ) (told : Fault)
    → IsAnswerTold IsCapabilityTold answer code told → IsCapabilityCode code
tells_capability_code (Ok done) code told is = inl (inl is.0)
tells_capability_code (Err error) code told is = (capability_code code told error is).0

pub tells_root_code : (answer : Result (Unit {0}) CapabilityError) (code : ℕ) (told : Fault)
    → IsAnswerTold IsCapabilityTold answer code told → IfErr answer (λ e. e ≢ capabilities.RootMoves)
    → IsRootCode code
tells_root_code (Ok done) code told is stays = inl is.0
tells_root_code (Err error) code told is stays = root_code code told error is stays

-- ---- where the maps are images

ids_written : (users groups : List Specification) (direction : Direction) (room : ℕ) (old new : List ℕ)
    → IdsBecome 2 users direction old new → IdsBecome 8 groups direction old new
    → GoesAcross users groups direction room old → AreIds old new
ids_written users groups direction room old new user_ids group_ids goes k below e greatest = grind arith

pub tells_acl : (users groups : List Specification) (direction : Direction) (room : ℕ) (old new : List ℕ)
    (answer : Result (Unit {0}) AclError) (code : ℕ) (told : Fault)
    → IsAnswerTold (IsAclTold room) answer code told
    → ChangesList users groups direction room old new answer
    → ChangesAcl users groups direction room old new code told
tells_acl users groups direction room old new (Ok done) code told is change = record {
  done = λ _. record { user_ids = change.user_ids; group_ids = change.group_ids; rest = change.rest };
  ids = λ _. ids_written users groups direction room old new change.user_ids change.group_ids change.accepted;
  accepted = λ _. change.accepted;
  complete = λ _. is.0;
  refused = λ failed. absurd (failed is.0);
  faulty = λ error has. absurd (change.faulty error has);
  leads_back = λ _. change.leads_back;
}
tells_acl users groups direction room old new (Err error) code told is change = search (rules, acl_code, false≢true)

pub tells_capability : (users : List Specification) (direction : Direction) (old new : List ℕ)
    (answer : Result (Unit {0}) CapabilityError) (code : ℕ) (told : Fault)
    → IsAnswerTold IsCapabilityTold answer code told → ChangesRoot users direction old new answer
    → ChangesCapability users direction old new code told
tells_capability users direction old new (Ok done) code told is change = search rules
tells_capability users direction old new (Err error) code told is change = search (rules, capability_code, false≢true)
