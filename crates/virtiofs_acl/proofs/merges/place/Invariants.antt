use Rattle.std.proofs.Common.{◌<◌, ◌≤◌, All, take}
use Rattle.virtiofs_acl.specs.AclParts.{AllSoundBelow, Places, OfWays}
use Rattle.virtiofs_acl.proofs.merges.place.Given as goal

-- the room holds the entries so far that have an id
abbrev pub invariant-loop-k : goal.invariant-loop-k
invariant-loop-k l = record {
  within : l.used ≤ l.k;
  entries : All (λ one. one.entry < l.k) (take l.used l.room);
  placed : OfWays l.ways
      (λ users groups direction. AllSoundBelow users groups direction l.value l.k
      → Places users groups direction l.value l.k (take l.used l.room));
}
