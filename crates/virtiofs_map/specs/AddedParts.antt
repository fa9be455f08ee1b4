-- How much longer the names become that some rules decide. Only the private functions of an audit, and their proofs,
-- cite these definitions.
use Rattle.std.specs.Prelude.{◌≡◌, ◌⊎◌, ℕ, ◌+◌, ◌<◌, ◌≤◌, List, length, Some}
use Rattle.virtiofs_map.specs.Audit.{AddsTo}
use Rattle.virtiofs_map.specs.MapRule.{IsName}
use Rattle.virtiofs_map.specs.Names.{first, Passes, client_answer}
use Rattle.virtiofs_map.specs.Rule.{MappingRule}
use Rattle.virtiofs_map.specs.declared.xattrmap.scopes.Side.TheVariants.{Client}

-- no name that the rule at that place decides becomes longer by more bytes, and if the number is not 0, some name
-- becomes longer by as many
pub record IsAddedAt (rules : List MappingRule) (place added : ℕ) : Type 0 where
  pub at_most : (name host : List ℕ) → IsName name → first Client rules name ≡ Some place
      → client_answer rules name ≡ Passes host → length host ≤ length name + added
  pub reached : (added ≡ 0) ⊎ AddsTo rules added

-- the same of the names that the first `count` rules decide
pub record IsAddedBelow (rules : List MappingRule) (count most : ℕ) : Type 0 where
  pub at_most : (name host : List ℕ) (place : ℕ) → IsName name → place < count → first Client rules name ≡ Some place
      → client_answer rules name ≡ Passes host → length host ≤ length name + most
  pub reached : (most ≡ 0) ⊎ AddsTo rules most
