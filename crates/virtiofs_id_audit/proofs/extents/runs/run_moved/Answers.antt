use Rattle.virtiofs_id_audit.proofs.extents.runs.RunLemmas.{IsRun-moved}
use Rattle.virtiofs_id_audit.proofs.extents.runs.run_moved.Goals as goal

pub returns-in-OneToOne : goal.returns-in-OneToOne
returns-in-OneToOne c =
    IsRun-moved c.args.piece c.in-OneToOne.to c.in-OneToOne.is c.requires.order c.requires.named
