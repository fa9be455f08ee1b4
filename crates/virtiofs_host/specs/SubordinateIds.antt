-- The texts of /etc/subuid and /etc/subgid.
use Rattle.std.specs.Prelude.{◌≡◌, ◌⊎◌, ℕ, List, [], ◌∷◌}
use Rattle.virtiofs_host.specs.Decimal.{IsDecimal}
use Rattle.virtiofs_host.specs.Lines.{colon_fields}
use Rattle.virtiofs_host.specs.declared.subordinate.SubIds.{SubIds}

-- the line is `OWNER:FIRST:COUNT`, and the owner is the user, by name or by number
pub record GivesIds (name : List ℕ) (uid : ℕ) (line : List ℕ) (ids : SubIds) : Type 0 where
  pub owner : List ℕ
  pub first_field : List ℕ
  pub count_field : List ℕ
  pub fields : colon_fields line ≡ owner ∷ first_field ∷ count_field ∷ []
  pub owned : (owner ≡ name) ⊎ IsDecimal owner uid
  pub first : IsDecimal first_field ids.first
  pub count : IsDecimal count_field ids.count
