-- What the parts before the first `--` ask for.
use Rattle.std.specs.Prelude.{◌≡◌, ◌-◌, ℕ, List, Bool, true, false, not, ◌||◌, ◌&&◌, Option, Some, None, find, length, slice_get, bytes_eq, codes, is_some}
use Rattle.std.specs.Borrow.{Bor}
use Rattle.std.specs.List.{list_any}
use Rattle.std.specs.Option.{option_and_then}
use Rattle.virtiofs_options.specs.GuestOptions.{values_of, value_in, has_flag}
use Rattle.virtiofs_options.specs.Parts.{sets_by}
use Rattle.virtiofs_options.specs.declared.command.Part.{Part}
use Rattle.virtiofs_options.specs.declared.fault.Fault.{Fault}
use Rattle.virtiofs_options.specs.declared.fault.Fault.TheVariants.{NotShown, NotAlone, Beside}
use Rattle.virtiofs_options.specs.declared.front.Asked.{Asked}
use Rattle.virtiofs_options.specs.declared.help.Telling.{Telling}
use Rattle.virtiofs_options.specs.declared.options.Sets.{Sets}
use Rattle.virtiofs_options.specs.declared.options.Sets.TheVariants as sets
use Rattle.virtiofs_options.specs.declared.values.Values.{Values}

-- a `--show` with this value is among the parts
abbrev pub has_shown : List ℕ → List Part → Bool
has_shown what parts = list_any (λ value. bytes_eq value.now what) (values_of (codes "--show") parts)

-- the first value of a `--show` that names nothing to show
abbrev pub not_shown : List Part → Option (Bor (List ℕ))
not_shown parts =
    find (λ value. not (bytes_eq value.now (codes "ids") || bytes_eq value.now (codes "names")))
    (values_of (codes "--show") parts)

-- the option has a value among the parts
abbrev pub has_value : List ℕ → List Part → Bool
has_value option parts = list_any (λ part. is_some (value_in option part)) parts

-- what parts that are right ask for
pub record IsAsked (parts : List Part) (asked : Asked) : Type 0 where
  pub json : asked.json ≡ has_flag (codes "--json") parts
  pub quiet : asked.quiet ≡ has_flag (codes "--quiet") parts
  pub svg : asked.svg ≡ has_flag (codes "--svg") parts
  pub mend : asked.mend ≡ has_flag (codes "--mend") parts
  pub ids : asked.ids ≡ has_shown (codes "ids") parts
  pub names : asked.names ≡ has_shown (codes "names") parts
  pub running : asked.running ≡ has_flag (codes "--running") parts

-- the values of the program's own options that are among the parts
pub record AreValues (parts : List Part) (values : Values) : Type 0 where
  pub accept : values.accept.items ≡ values_of (codes "--accept") parts
  pub accept_from : values.accept_from.items ≡ values_of (codes "--accept-from") parts
  pub explain : values.explain.items ≡ values_of (codes "--explain") parts
  pub pid : values.pid.items ≡ values_of (codes "--pid") parts
  pub run_as : values.run_as.items ≡ values_of (codes "--run-as") parts
  pub subuid : values.subuid.items ≡ values_of (codes "--subuid") parts
  pub subgid : values.subgid.items ≡ values_of (codes "--subgid") parts

-- `--mend` stands beside an option that also says what is written
abbrev pub mixes : List Part → Bool
mixes parts =
    has_flag (codes "--mend") parts
    && (has_flag (codes "--json") parts || has_flag (codes "--quiet") parts || has_flag (codes "--svg") parts
    || has_shown (codes "ids") parts || has_shown (codes "names") parts)

-- `--explain` stands beside an option that also says what is written
abbrev pub is_beside : List Part → Bool
is_beside parts =
    has_value (codes "--explain") parts
    && (has_flag (codes "--json") parts || has_flag (codes "--quiet") parts || has_flag (codes "--svg") parts
    || has_flag (codes "--mend") parts || has_shown (codes "ids") parts || has_shown (codes "names") parts)

-- what is wrong with what is asked for
abbrev pub IsAskedWrongly : List Part → Fault → Type 0
IsAskedWrongly parts (NotShown value) = not_shown parts ≡ Some value
IsAskedWrongly parts NotAlone = (not_shown parts ≡ None) × (mixes parts ≡ true)
IsAskedWrongly parts Beside = (not_shown parts ≡ None) × (mixes parts ≡ false) × (is_beside parts ≡ true)
IsAskedWrongly parts _ = ⊥

-- what the program is to tell of itself, if what is set says so
abbrev pub tells : Sets → Option Telling
tells (sets.Tells telling) = Some telling
tells _ = None

-- what the last part tells, if it asks for that: nothing is read after it
abbrev pub told_last : List Part → Option Telling
told_last parts = option_and_then (λ part. tells (sets_by part)) (slice_get parts (length parts - 1))
