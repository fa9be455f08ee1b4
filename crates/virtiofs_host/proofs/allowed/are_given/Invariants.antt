-- each id of the range below that one is given
use Rattle.std.proofs.Common.{ℕ, ◌<◌, ◌≤◌, ◌-◌}
use Rattle.virtiofs_host.specs.Allowed.{IsGiven}
use Rattle.virtiofs_host.proofs.allowed.are_given.Given as goal

abbrev pub invariant-loop-id : goal.invariant-loop-id
invariant-loop-id l = (l.first ≤ l.id) × ((other : ℕ) → l.first ≤ other → other < l.id → IsGiven l.given other)

abbrev pub decreases-loop-id : goal.decreases-loop-id
decreases-loop-id l = l.end - l.id
