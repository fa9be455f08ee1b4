-- no rule so far decides a name
use Rattle.std.proofs.Common.{ℕ, ◌<◌, ◌≤◌}
use Rattle.virtiofs_map.specs.Audit.{Decides}
use Rattle.virtiofs_findings.proofs.names.audits.decides_from.Given as goal

abbrev pub invariant-loop-part : goal.invariant-loop-part
invariant-loop-part g l = (k : ℕ) → l.place ≤ k → k < l.part → ¬ Decides l.map k
