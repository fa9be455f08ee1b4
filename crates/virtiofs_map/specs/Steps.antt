-- How a count of steps grows.
use Rattle.std.specs.Prelude.{◌≡◌, ℕ, ◌+◌, ◌≤◌, min}

-- the count after some steps more; it saturates at 18446744073709551615
abbrev pub count_after : ℕ → ℕ → ℕ
count_after count steps = min (count + steps) 18446744073709551615

-- a call counted at least `least` and at most `most` steps; the counter saturates
pub record CountsBetween (least most before after : ℕ) : Type 0 where
  pub steps : ℕ
  pub at_least : least ≤ steps
  pub at_most : steps ≤ most
  pub counted : after ≡ count_after before steps
