use Rattle.virtiofs_map.specs.Audit.{IsShared, SharesNoName}
use Rattle.virtiofs_map.proofs.audit.AuditLeastLemmas.{answers_ok, holds_ok}
use Rattle.virtiofs_map.proofs.audit.AuditSharedLemmas.{disjoint_where_none, none_where_disjoint, disjoint_both_ways}
use Rattle.virtiofs_map.proofs.audit.shares_no_name.Goals as goal

pub returns : goal.returns
returns g c =
    let r = c.args.r.now in
    let q = c.args.q.now in
    let least = c.ask.ensures r q c.as_ref.ensures c.as_ref-2.ensures in
    record {
      answer = answers_ok c.ask.result (IsShared r q) least;
      disjoint = holds_ok c.ask.result (IsShared r q) (SharesNoName r q) (disjoint_where_none r q)
          (none_where_disjoint r q) least;
      both_ways = holds_ok c.ask.result (IsShared r q) (SharesNoName q r)
          (λ none. disjoint_both_ways r q (disjoint_where_none r q none))
          (λ disjoint. none_where_disjoint r q (disjoint_both_ways q r disjoint)) least;
    }
