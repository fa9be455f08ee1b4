use Rattle.virtiofs_map.specs.Audit.{IsLost}
use Rattle.virtiofs_mapcheck.proofs.AuditsAnswerLemmas.{SaysLeast-audit}
use Rattle.virtiofs_mapcheck.proofs.audits.say_audit.Goals as goal

pub returns : goal.returns
returns g c =
    SaysLeast-audit (IsLost c.args.map.now) c.in_ok-audited.audited _ c.in_ok-audited.ensures.answer
    c.in_ok-audit_line.ensures
