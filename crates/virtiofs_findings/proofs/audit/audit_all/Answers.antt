use Rattle.virtiofs_findings.proofs.AdviceLemmas.{all_refused}
use Rattle.virtiofs_findings.proofs.RefusalLemmas.{told_where_refused}
use Rattle.virtiofs_findings.proofs.audit.audit_all.Goals as goal

pub returns : goal.returns
returns g c =
    let tells = all_refused c.args.guests.now _ _ c.in_ok-sets.ensures.says c.new-refusals.ensures.items in record {
      sets_up = c.in_ok-sets.ensures.sets_up;
      finds = rw c.as_slice.ensures.value at c.in_ok-findings.ensures;
      refused = told_where_refused 1 c.args.guests.now _ _ c.in_ok-sets.ensures.sets_up tells;
      refusals = tells;
    }
