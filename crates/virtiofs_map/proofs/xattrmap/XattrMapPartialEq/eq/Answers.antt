use Rattle.virtiofs_map.proofs.xattrmap.RuleEqualityLemmas.{same_rules-Decides}
use Rattle.virtiofs_map.proofs.xattrmap.XattrMapPartialEq.eq.Goals as goal

pub returns-clause-equal : goal.returns-clause-equal
returns-clause-equal g c =
    same_rules-Decides c.args.self.now c.args.other.now c.is_same.result
    (c.is_same.ensures c.args.self.now c.args.other.now c.as_ref.ensures c.as_ref-2.ensures)
