use Rattle.virtiofs_map.proofs.CutLemmas.{split_nowhere, split_first}
use Rattle.virtiofs_map.proofs.text.cut_at.Goals as goal

pub returns-clause-absent : goal.returns-clause-absent
returns-clause-absent c = split_nowhere _ _ _ c.utf8.text c.split_once.ensures.cases

pub returns-clause-first : goal.returns-clause-first
returns-clause-first c = split_first _ _ _ c.ranges.at.0 c.utf8.text c.split_once.ensures.cases
