-- A text and a character that separates its parts.
use Rattle.std.specs.Prelude.{◌≢◌, ℕ, ◌==◌, List}
use Rattle.std.specs.List.{AllByRecursion, slice_split}

-- no character of the text is c
abbrev pub Lacks : ℕ → List ℕ → Type 0
Lacks c text = AllByRecursion (λ x. x ≢ c) text

-- the parts of the text before, between and after its separators
abbrev pub split_at_each : ℕ → List ℕ → List (List ℕ)
split_at_each separator text = slice_split (λ c. c == separator) text
