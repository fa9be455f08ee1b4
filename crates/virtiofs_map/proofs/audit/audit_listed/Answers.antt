use Rattle.virtiofs_map.specs.Audit.{IsStray, OpensListed}
use Rattle.virtiofs_map.proofs.audit.AuditLeastLemmas.{answers_ok, holds_ok}
use Rattle.virtiofs_map.proofs.audit.AuditStrayLemmas.{opens_where_none}
use Rattle.virtiofs_map.proofs.audit.audit_listed.Goals as goal

pub returns : goal.returns
returns g c =
    let map = c.args.map.now in
    let least = c.ask.ensures map map c.as_ref-map.ensures c.as_ref-map.ensures in
    record {
      answer = answers_ok c.ask.result (IsStray map) least;
      opens = holds_ok c.ask.result (IsStray map) (OpensListed map) (opens_where_none map)
          (λ opens host stray. stray.not_opened (opens host stray.name stray.is_name stray.not_empty stray.listed)) least;
    }
