use Rattle.std.proofs.Common.{◌≡◌, ℕ, ◌<◌, get_or}
use Rattle.virtiofs_acl.proofs.capabilities.write_with_root.Given as goal

-- the bytes so far are those of the value, with zeros where it has ended
abbrev pub invariant-loop-place : goal.invariant-loop-place
invariant-loop-place l = (k : ℕ) → k < l.place → get_or l.written k 0 ≡ get_or l.value k 0
