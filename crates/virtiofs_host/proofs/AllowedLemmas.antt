-- Ranges of subordinate ids.
use Rattle.std.proofs.Common.{ℕ, ◌<◌, ◌≤◌, List, inl, inr, arith}
use Rattle.std.proofs.lemmas.Bool.{cases_lt}
use Rattle.virtiofs_host.specs.Allowed.{IsGiven}
use Rattle.virtiofs_host.specs.declared.subordinate.SubIds.{SubIds}

-- all ids up to the next one are given
pub given_more : (given : List SubIds) (first id next : ℕ) → first ≤ id
    → ((other : ℕ) → first ≤ other → other < id → IsGiven given other) → id < next
    → ((other : ℕ) → id ≤ other → other < next → IsGiven given other)
    → (first ≤ next) × ((other : ℕ) → first ≤ other → other < next → IsGiven given other)
given_more given first id next order so_far above here = (omega arith, all) where
  all : (other : ℕ) → first ≤ other → other < next → IsGiven given other
  all other low high = elim (cases_lt other id) [
    | inl earlier ↦ so_far other low earlier
    | inr late ↦ here other late high
  ]
