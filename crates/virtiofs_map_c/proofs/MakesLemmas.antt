-- What a call tells that makes something, from what it refuses: out of memory where there is no fault, and else the one
-- that there is.
use Rattle.std.proofs.Common.{◌≡◌, Option, arith}
use Rattle.virtiofs_map_c.specs.Faults.{TellsFault, MakesOrTells, TellsThis}

-- there is no fault
pub refused_complete : {F : Type 0} (made : Type 0) (has : F → Type 0) (is_told : Option F → Type 0)
    → TellsFault has is_told → ((fault : F) → ¬ has fault) → MakesOrTells made is_told
refused_complete made has is_told (fault, refused, told) none = grind arith

-- there is this fault
pub refused_faulty : {F : Type 0} (has : F → Type 0) (is_told : Option F → Type 0) → TellsFault has is_told
    → (wrong : F) → ((other : F) → has other → other ≡ wrong) → TellsThis is_told wrong
refused_faulty has is_told (fault, refused, told) wrong one = grind arith
