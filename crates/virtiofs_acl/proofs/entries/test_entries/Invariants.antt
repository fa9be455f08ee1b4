use Rattle.virtiofs_acl.specs.AclParts.{AllSoundBelow, OfWays}
use Rattle.virtiofs_acl.proofs.entries.test_entries.Given as goal

-- the entries so far are sound
abbrev pub invariant-loop-k : goal.invariant-loop-k
invariant-loop-k l =
    OfWays l.ways (λ users groups direction. AllSoundBelow users groups direction l.value l.k)
