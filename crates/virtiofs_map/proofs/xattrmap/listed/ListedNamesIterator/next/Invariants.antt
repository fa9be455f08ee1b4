use Rattle.std.proofs.Common.{◌≡◌, length}
use Rattle.virtiofs_map.specs.Listing.{listing}
use Rattle.virtiofs_map.proofs.xattrmap.listed.ListedNamesIterator.next.Given as goal

-- the names passed over were hidden
abbrev pub invariant-names : goal.invariant-names
invariant-names g l = listing l.self-inside.map.now l.self-inside.rest.now ≡ l.fn.self

abbrev pub decreases-names : goal.decreases-names
decreases-names g l = length l.self-inside.rest.now
