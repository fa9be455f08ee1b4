use Rattle.std.proofs.Common.{rules}
use Rattle.virtiofs_id_audit.specs.IdAudit.{IsAstray, ComesBack}
use Rattle.virtiofs_id_audit.proofs.IdAuditLemmas.{ComesBack-none, no_where_bad}
use Rattle.virtiofs_id_audit.proofs.RoundTripLemmas.{ComesBack-all}
use Rattle.virtiofs_id_audit.proofs.comes_back.Goals as goal

pub returns-in-Some-clause-comes_back : goal.returns-in-Some-clause-comes_back
returns-in-Some-clause-comes_back g c =
    no_where_bad (IsAstray c.args.map.now) (ComesBack c.args.map.now) _ _ c.in-Some.ensures.least.is_bad
    (ComesBack-none _)

pub returns-in-None-clause-comes_back : goal.returns-in-None-clause-comes_back
returns-in-None-clause-comes_back g c =
    let back = ComesBack-all _ c.in-None.ensures.accepted c.in-None.ensures.least in search rules
