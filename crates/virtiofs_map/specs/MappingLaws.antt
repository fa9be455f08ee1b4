-- What holds of every accepted list of specifications.
use Rattle.std.specs.Prelude.{◌≡◌, ◌↔◌, ℕ, List, Contains, Option, Some, IsPermutation}
use Rattle.virtiofs_map.specs.Mapping.{Covers, Becomes}
use Rattle.virtiofs_map.specs.Build.{Accepted}
use Rattle.virtiofs_map.specs.declared.cmdline.IdMap.{IdMap}
use Rattle.virtiofs_map.specs.declared.cmdline.IdMap.TheVariants.{Bidirectional}
use Rattle.virtiofs_map.specs.declared.soft_idmap.entry.Direction.{Direction}
use Rattle.virtiofs_map.specs.declared.soft_idmap.entry.Direction.TheVariants.{GuestToHost, HostToGuest}

-- a number becomes only one result
abbrev pub HasOneValue : List IdMap → Type 0
HasOneValue specs = (direction : Direction) (n : ℕ) (value other : Option ℕ)
    → Becomes specs direction n value → Becomes specs direction n other → value ≡ other

-- the two lists map each number to the same result
abbrev pub MeansTheSame : List IdMap → List IdMap → Type 0
MeansTheSame specs others = (direction : Direction) (n : ℕ) (value : Option ℕ)
    → Becomes specs direction n value ↔ Becomes others direction n value

-- every order of the list is accepted too, and means the same
abbrev pub IsOrderFree : List IdMap → Type 0
IsOrderFree specs = (others : List IdMap)
    → IsPermutation specs others → Accepted others × MeansTheSame specs others

-- the greatest number stays itself in both directions
abbrev pub KeepsGreatest : List IdMap → Type 0
KeepsGreatest specs = (direction : Direction) → Becomes specs direction 4294967295 (Some 4294967295)

-- a `map` specification of the list, which maps both ways, covers the number in that direction
pub record IsMappedBothWays (specs : List IdMap) (direction : Direction) (n : ℕ) : Type 0 where
  pub guest : ℕ
  pub host : ℕ
  pub count : ℕ
  pub listed : Contains specs (Bidirectional guest host count)
  pub covers : Covers (Bidirectional guest host count) direction n

-- the other direction
abbrev pub opposite : Direction → Direction
opposite GuestToHost = HostToGuest
opposite HostToGuest = GuestToHost

-- in the other direction, value becomes n
abbrev pub LeadsBack : List IdMap → Direction → ℕ → ℕ → Type 0
LeadsBack specs direction n value = Becomes specs (opposite direction) value (Some n)
