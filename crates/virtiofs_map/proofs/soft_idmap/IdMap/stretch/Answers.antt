use Rattle.virtiofs_map.proofs.soft_idmap.IdMap.stretch.Goals as goal

pub returns-clause-stretch : goal.returns-clause-stretch
returns-clause-stretch g c = c.stretch.ensures.stretch c.args.self.now c.args.direction c.ranges-2.ensures.ranges
