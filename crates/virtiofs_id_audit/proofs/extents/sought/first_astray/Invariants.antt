use Rattle.std.proofs.Common.{ℕ, ◌-◌, ◌<◌}
use Rattle.virtiofs_id_audit.specs.IdAudit.{IsAstray}
use Rattle.virtiofs_id_audit.proofs.extents.sought.first_astray.Given as goal

-- no id so far is astray
abbrev pub invariant-loop-run : goal.invariant-loop-run
invariant-loop-run g l = (l.next < 4294967295) × ((n : ℕ) → n < l.next → ¬ IsAstray l.map n)

abbrev pub decreases-loop-run : goal.decreases-loop-run
decreases-loop-run g l = 4294967295 - l.next
