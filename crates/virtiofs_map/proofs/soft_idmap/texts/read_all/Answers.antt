use Rattle.virtiofs_map.proofs.SpecificationsLemmas.{refused-text}
use Rattle.virtiofs_map.proofs.soft_idmap.texts.read_all.Goals as goal

pub returns-in-Err-clause-refused : goal.returns-in-Err-clause-refused
returns-in-Err-clause-refused g c =
    refused-text c.args.texts.now _ _ _ _ c.loop-index-test.true c.loop-index.invariant c.in-Err.ensures.refused
