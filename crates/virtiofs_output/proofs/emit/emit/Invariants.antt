-- What is gone from `rest` was appended, and no write has failed yet; each turn shortens `rest`.
use Rattle.std.proofs.Common.{◌≡◌, ℕ, List, ◌++◌, length, IsFalse}
use Rattle.std.specs.Io.KnownBytes.{Appends}
use Rattle.virtiofs_output.proofs.emit.emit.Given as goal

abbrev pub invariant-loop-rest : goal.invariant-loop-rest
invariant-loop-rest g l =
    (done : List ℕ) × (l.text ≡ done ++ l.rest) × Appends l.initial.out.bytes l.out.bytes done × IsFalse l.out.failed

abbrev pub decreases-loop-rest : goal.decreases-loop-rest
decreases-loop-rest g l = length l.rest
