-- What a lookup of an id answers.
use Rattle.std.specs.Prelude.{◌≡◌, ℕ, List, Some, None, Result, IfOk, IfErr, IsOkAnd, IsErrAnd, OnErr}
use Rattle.virtiofs_map.specs.Mapping.{Becomes}
use Rattle.virtiofs_map.specs.declared.cmdline.IdMap.{IdMap}
use Rattle.virtiofs_map.specs.declared.soft_idmap.entry.Direction.{Direction}

-- the result of a lookup of the number n in that direction: an id of the other side, whose number is `number id`, or
-- the error `failed`
pub record LooksUp {T E : Type 0} (specs : List IdMap) (direction : Direction) (n : ℕ)
    (number : T → ℕ) (failed : E) (result : Result T E) : Type 0 where
  -- if it succeeds, n becomes the number of the result
  pub value : IfOk result (λ id. Becomes specs direction n (Some (number id)))
  -- if n becomes a number, it succeeds, and the result has that number
  pub complete : (m : ℕ) → Becomes specs direction n (Some m) → IsOkAnd result (λ id. number id ≡ m)
  -- if it fails, the use of n is forbidden
  pub fails : OnErr result (Becomes specs direction n None)
  -- if the use of n is forbidden, it fails with that error
  pub forbidden : Becomes specs direction n None → IsErrAnd result (λ e. e ≡ failed)
  -- if it fails, the error is that one
  pub names : IfErr result (λ e. e ≡ failed)
