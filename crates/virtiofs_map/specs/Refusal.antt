-- Why a call is refused: out of memory, or a fault of what it was given.
use Rattle.std.specs.Prelude.{◌≡◌, ⊤, Option, Some, None}

-- the error is out of memory
abbrev pub IsOutOfMemory : {F : Type 0} → Option F → Type 0
IsOutOfMemory fault = fault ≡ None

-- the error is out of memory, or it reports a fault for which `P` holds
abbrev pub OutOfMemoryOr : {F : Type 0} → Option F → (F → Type 0) → Type 0
OutOfMemoryOr None P = ⊤
OutOfMemoryOr (Some fault) P = P fault
