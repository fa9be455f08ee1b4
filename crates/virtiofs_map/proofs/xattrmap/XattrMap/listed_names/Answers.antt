use Rattle.virtiofs_map.proofs.xattrmap.ListingLemmas.{list_of-listing}
use Rattle.virtiofs_map.proofs.xattrmap.XattrMap.listed_names.Goals as goal

pub returns-clause-whole_list : goal.returns-clause-whole_list
returns-clause-whole_list g c = list_of-listing _ c.args.self.now c.args.list.now
