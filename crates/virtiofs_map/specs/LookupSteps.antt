-- How many times a lookup of an id reads a range.
use Rattle.std.specs.Prelude.{ℕ, zero, suc, ◌/◌, nat_lt, min, Bool, false, List, count_by, Option, Some, None}
use Rattle.virtiofs_map.specs.Mapping.{entry_of, count_of}
use Rattle.virtiofs_map.specs.declared.cmdline.IdMap.{IdMap}
use Rattle.virtiofs_map.specs.declared.soft_idmap.entry.Direction.{Direction}
use Rattle.virtiofs_map.specs.declared.soft_idmap.entry.Entry.{Entry}

-- there is an entry, and it covers one number or more
abbrev pub covers_some : Option Entry → Bool
covers_some None = false
covers_some (Some entry) = nat_lt 0 (count_of entry)

-- how many specifications act in the direction, on one number or more
abbrev pub acting : List IdMap → Direction → ℕ
acting specs direction = count_by (λ spec. covers_some (entry_of spec direction)) specs

-- how many times a number can be halved until it is 0, but at most as many times as the first argument says (so that
-- the recursion ends)
unfoldable pub halvings_within : ℕ → ℕ → ℕ
halvings_within zero m = 0
halvings_within (suc times) zero = 0
halvings_within (suc times) (suc m) = suc (halvings_within times (suc m / 2))

-- how many binary digits a number has: none for 0, else the least e for which 2 to the power of e is above it
unfoldable pub binary_digits : ℕ → ℕ
binary_digits m = halvings_within m m

-- a lookup reads at least one range, if a specification acts in the direction
abbrev pub least_steps : List IdMap → Direction → ℕ
least_steps specs direction = min 1 (acting specs direction)

-- a lookup reads at most as many ranges as the number of those specifications has binary digits
abbrev pub most_steps : List IdMap → Direction → ℕ
most_steps specs direction = binary_digits (acting specs direction)
