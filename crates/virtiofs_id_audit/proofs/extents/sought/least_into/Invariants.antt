use Rattle.std.proofs.Common.{ℕ, ◌-◌, ◌<◌, ◌≤◌}
use Rattle.virtiofs_id_audit.specs.IdAudit.{GoesInto, Hold}
use Rattle.virtiofs_id_audit.proofs.extents.sought.least_into.Given as goal

-- no id so far becomes one of the spans
abbrev pub invariant-loop-next : goal.invariant-loop-next
invariant-loop-next g l =
    (l.from ≤ l.next) × ((n : ℕ) → l.from ≤ n → n < l.next → ¬ GoesInto l.map (Hold l.spans) n)

abbrev pub decreases-loop-next : goal.decreases-loop-next
decreases-loop-next g l = 4294967295 - l.next
