use Rattle.virtiofs_map.proofs.WordLemmas.{SaysIn-becomes, SaysIn-fails, SaysIn-no_image}
use Rattle.virtiofs_map.proofs.soft_idmap.IdMap.becomes.Goals as goal

pub unreachable-requires : goal.unreachable-requires
unreachable-requires g c =
    SaysIn-no_image _ _ _ (c.in-NoImage.ensures.says c.args.self.now c.args.direction c.ranges-2.ensures.ranges)

pub returns-in-Becomes-clause-becomes : goal.returns-in-Becomes-clause-becomes
returns-in-Becomes-clause-becomes g c =
    SaysIn-becomes _ _ _ _ (c.in-Becomes.ensures.says c.args.self.now c.args.direction c.ranges-2.ensures.ranges)

pub returns-in-Fails-clause-becomes : goal.returns-in-Fails-clause-becomes
returns-in-Fails-clause-becomes g c =
    SaysIn-fails _ _ _ (c.in-Fails.ensures.says c.args.self.now c.args.direction c.ranges-2.ensures.ranges)
