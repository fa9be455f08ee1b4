-- no range so far has an id from `inside` to `last`
use Rattle.std.proofs.Common.{ℕ, ◌≤◌, take}
use Rattle.std.specs.List.{All}
use Rattle.virtiofs_id_audit.specs.Namespace.{Has}
use Rattle.virtiofs_id_audit.proofs.namespace.run_of_none.Given as goal

abbrev pub invariant-loop-range : goal.invariant-loop-range
invariant-loop-range l = (l.inside ≤ l.last) × (l.last ≤ 4294967295)
    × ((n : ℕ) → l.inside ≤ n → n ≤ l.last → All (λ range. ¬ Has range n) (take l.range-index l.ranges))
