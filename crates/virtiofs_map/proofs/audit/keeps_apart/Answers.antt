use Rattle.virtiofs_map.specs.Audit.{Apart, IsSeen, Isolated}
use Rattle.virtiofs_map.proofs.audit.AuditLeastLemmas.{answers_ok, holds_ok}
use Rattle.virtiofs_map.proofs.audit.AuditSeenLemmas.{apart_where_none, none_where_apart, isolated_where_apart}
use Rattle.virtiofs_map.proofs.audit.AuditSeenLemmas.{none_where_isolated}
use Rattle.virtiofs_map.proofs.audit.keeps_apart.Goals as goal

pub returns : goal.returns
returns g c =
    let r = c.args.r.now in
    let q = c.args.q.now in
    let least = c.ask.ensures r q c.as_ref.ensures c.as_ref-2.ensures in
    record {
      answer = answers_ok c.ask.result (IsSeen r q) least;
      apart = holds_ok c.ask.result (IsSeen r q) (Apart r q) (apart_where_none r q) (none_where_apart r q) least;
      isolated = holds_ok c.ask.result (IsSeen r q) (Isolated r q)
          (λ none. isolated_where_apart r q (apart_where_none r q none)) (none_where_isolated r q) least;
    }
