use Rattle.virtiofs_acl.specs.AclParts.{AllSoundBelow, IsWritten, OfWays}
use Rattle.virtiofs_acl.proofs.lists.write_entries.Given as goal

-- the ids of the entries so far are written
abbrev pub invariant-loop-k : goal.invariant-loop-k
invariant-loop-k l =
    OfWays l.ways
    (λ users groups direction. AllSoundBelow users groups direction l.initial.value l.k
    → IsWritten users groups direction l.initial.value l.value l.k)
