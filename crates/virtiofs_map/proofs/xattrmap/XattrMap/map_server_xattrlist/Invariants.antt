use Rattle.virtiofs_map.proofs.xattrmap.ListingLemmas.{IsSoFar}
use Rattle.virtiofs_map.proofs.xattrmap.XattrMap.map_server_xattrlist.Given as goal

abbrev pub invariant-names : goal.invariant-names
invariant-names g l = IsSoFar l.self l.fn.names.items l.listed.items l.name-iterator
