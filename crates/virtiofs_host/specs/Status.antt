-- The text of /proc/PID/status.
use Rattle.std.specs.Char.{digit_value}
use Rattle.std.specs.Prelude.{◌≡◌, ◌==◌, ℕ, ◌-◌, ◌/◌, ◌%◌, ◌<◌, ◌≤◌, Bool, false, List, ◌∷◌, Option, codes, length, slice_index}
use Rattle.std.specs.Option.{option_map_or}
use Rattle.virtiofs_map.specs.Separator.{split_at_each}
use Rattle.virtiofs_host.specs.Decimal.{IsDecimal}
use Rattle.virtiofs_host.specs.Lines.{lines, FirstSaid}

-- the line is `KEY`, the real id, the effective id and more, with a tab between two
pub record SaysEffective (key line : List ℕ) (id : ℕ) : Type 0 where
  pub real : List ℕ
  pub effective : List ℕ
  pub more : List (List ℕ)
  pub fields : split_at_each 9 line ≡ key ∷ real ∷ effective ∷ more
  pub is_id : IsDecimal effective id

-- the line is `PPid:`, the number of the parent, with a tab between, and maybe more
pub record SaysParent (line : List ℕ) (pid : ℕ) : Type 0 where
  pub parent : List ℕ
  pub more : List (List ℕ)
  pub fields : split_at_each 9 line ≡ codes "PPid:" ∷ parent ∷ more
  pub is_pid : IsDecimal parent pid

-- the line is `CapEff:` and a number in hexadecimal, with a tab between, and maybe more; `digit` is its last digit but one,
-- of which each bit is a capability, from 4 up
pub record SaysCapabilities (line : List ℕ) (digit : ℕ) : Type 0 where
  pub mask : List ℕ
  pub more : List (List ℕ)
  pub fields : split_at_each 9 line ≡ codes "CapEff:" ∷ mask ∷ more
  pub long : 2 ≤ length mask
  pub is_digit : digit_value (slice_index mask (length mask - 2)) ≡ digit
  pub small : digit < 16

-- it has CAP_SETUID, which is 7
abbrev pub sets_uids : Option ℕ → Bool
sets_uids digit = option_map_or (λ bits. bits / 8 % 2 == 1) digit false

-- it has CAP_SETGID, which is 6
abbrev pub sets_gids : Option ℕ → Bool
sets_gids digit = option_map_or (λ bits. bits / 4 % 2 == 1) digit false

-- whether the capabilities that the text says let the process change such ids
abbrev pub MaySet : (Option ℕ → Bool) → List ℕ → Bool → Type 0
MaySet sets status may = (digit : Option ℕ) × FirstSaid SaysCapabilities (lines status) digit × (may ≡ sets digit)
