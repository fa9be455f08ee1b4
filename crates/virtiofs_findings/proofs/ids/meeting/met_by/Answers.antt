use Rattle.std.proofs.Common.{arith}
use Rattle.virtiofs_findings.proofs.ids.meeting.met_by.Goals as goal

pub returns-in_default : goal.returns-in_default
returns-in_default g c = λ host stands reached. c.in_default.ensures host stands

pub returns : goal.returns
returns g c = grind arith
