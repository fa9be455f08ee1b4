use Rattle.std.proofs.Common.{rules, tests}
use Rattle.std.proofs.lemmas.Iterator.{YieldsList-from_slice}
use Rattle.std.proofs.lemmas.Iterator.Search.{position_from_yields_List}
use Rattle.virtiofs_map.proofs.ServerListLemmas.{is_zero}
use Rattle.virtiofs_map.proofs.xattrmap.listed.first_zero.Goals as goal

pub returns : goal.returns
returns c =
    position_from_yields_List is_zero _ _ c.position.result c.position.ensures.ran
    (YieldsList-from_slice c.args.list.now cc) (λ x b q k. search (rules, tests))
