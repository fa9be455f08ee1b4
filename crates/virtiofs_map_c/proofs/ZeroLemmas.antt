-- Bytes that hold no zero are all before the first one.
use Rattle.std.proofs.Common.{ℕ, suc, ◌+◌, ◌==◌, ◌≤◌, inl, inr, cond, not, Contains, List, [], ◌∷◌, length, ap, arith}
use Rattle.std.proofs.lemmas.Bool.{cases_Bool}
use Rattle.std.proofs.lemmas.Bool.Decides.{Decides-eqb}
use Rattle.std.specs.List.{position_or_len}

pub all_before : (bytes : List ℕ) → ¬ Contains bytes 0 → length bytes ≤ position_or_len (λ byte. byte == 0) bytes
all_before [] plain = omega arith
all_before (x ∷ bytes) plain =
    elim (cases_Bool (x == 0)) [
      | inl is ↦ absurd (plain (0, omega arith, (Decides-eqb x 0).0 is))
      | inr other ↦
          (let more = all_before bytes (λ has. plain (suc has.0, omega (arith, has.1), has.2)) in
          let step = ap (λ b. cond (not b) (1 + position_or_len (λ byte. byte == 0) bytes) 0) other in
          omega (arith, step, more))
    ]
