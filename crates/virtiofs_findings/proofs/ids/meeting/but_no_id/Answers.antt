use Rattle.virtiofs_findings.proofs.MeetingLemmas.{moved_but_no_id}
use Rattle.virtiofs_findings.proofs.ids.meeting.but_no_id.Goals as goal

pub returns : goal.returns
returns g c = moved_but_no_id c.moved_all.result c.args.spans.now c.moved_all.ensures
