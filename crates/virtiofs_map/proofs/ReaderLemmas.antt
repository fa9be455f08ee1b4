-- What a reader answers to a text with a value or a fault, from what it reads and what it refuses.
use Rattle.std.proofs.Common.{◌≡◌, Option, Result, IfOk, IfErr, MatchResult, arith}
use Rattle.virtiofs_map.specs.Refusal.{IsOutOfMemory, OutOfMemoryOr}

-- where there is no fault, a refusal says out of memory
pub out_of_memory : {F : Type 0} (told : Option F) (Has : F → Type 0) → OutOfMemoryOr told Has
    → ((fault : F) → ¬ Has fault) → IsOutOfMemory told
out_of_memory told Has refused none = grind arith

-- where there is one fault, a refusal tells that one
pub told_fault : {F : Type 0} (told : Option F) (Has : F → Type 0) (fault : F) → OutOfMemoryOr told Has
    → ((other : F) → Has other → other ≡ fault) → OutOfMemoryOr told (λ other. other ≡ fault)
told_fault told Has fault refused one = grind arith

-- a text that has this value alone, and no fault
pub complete : {T E F : Type 0} (fault_of : E → Option F) (Says : T → Type 0) (Has : F → Type 0) (r : Result T E)
    → IfOk r Says → IfErr r (λ e. OutOfMemoryOr (fault_of e) Has) → (value : T)
    → ((other : T) → Says other → other ≡ value) → ((fault : F) → ¬ Has fault)
    → MatchResult r (λ other. other ≡ value) (λ e. IsOutOfMemory (fault_of e))
complete fault_of Says Has r read refused value one none = grind (arith, out_of_memory)

-- a text that has this fault alone, and no value
pub faulty : {T E F : Type 0} (fault_of : E → Option F) (Says : T → Type 0) (Has : F → Type 0) (r : Result T E)
    → IfOk r Says → IfErr r (λ e. OutOfMemoryOr (fault_of e) Has) → (fault : F) → ((value : T) → ¬ Says value)
    → ((other : F) → Has other → other ≡ fault)
    → MatchResult r (λ _. ⊥) (λ e. OutOfMemoryOr (fault_of e) (λ other. other ≡ fault))
faulty fault_of Says Has r read refused fault none one = grind (arith, told_fault)
