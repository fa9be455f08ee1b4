-- Texts that are values, one after another.
use Rattle.std.specs.Prelude.{◌≡◌, ◌≢◌, ℕ, List, [], ◌∷◌, length, Option, None, Some}
use Rattle.virtiofs_host.specs.declared.error.ReadError.{ReadError}
use Rattle.virtiofs_host.specs.declared.error.ReadError.TheVariants.{OutOfMemory, Wrong}

-- the text begins with these values, and the rest follows them
abbrev pub ThenRest : {V : Type 0} → (List ℕ → V → List ℕ → Type 0) → List ℕ → List V → List ℕ → Type 0
ThenRest Begins text [] rest = text ≡ rest
ThenRest Begins text (value ∷ values) rest =
    (after : List ℕ) × Begins text value after × ThenRest Begins after values rest

-- the text is these values
abbrev pub AreAll : {V : Type 0} → (List ℕ → V → List ℕ → Type 0) → List ℕ → List V → Type 0
AreAll Begins text values = ThenRest Begins text values []

-- so many values stand before a part of the text that is not empty and begins with no value
pub record StopsAfter {V : Type 0} (Begins : List ℕ → V → List ℕ → Type 0) (text : List ℕ) (place : ℕ) : Type 0 where
  pub values : List V
  pub rest : List ℕ
  pub before : ThenRest Begins text values rest
  pub counted : length values ≡ place
  pub some : rest ≢ []
  pub wrong : (value : V) (after : List ℕ) → ¬ Begins rest value after

-- the place that an error tells, where it is no want of memory
abbrev pub wrong_place : ReadError → Option ℕ
wrong_place OutOfMemory = None
wrong_place (Wrong place) = Some place
