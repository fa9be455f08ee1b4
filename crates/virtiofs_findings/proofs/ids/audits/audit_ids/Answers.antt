use Rattle.virtiofs_findings.proofs.IdLemmas.{all_same, into_same}
use Rattle.virtiofs_findings.proofs.ids.audits.audit_ids.Goals as goal

pub returns : goal.returns
returns g c =
    let specs = c.args.map.now in
    let lacking = c.in_ok-lacking.ensures in record {
      astray = all_same _ _ _ _ (λ n is. (is.0, λ into. is.1 (into_same specs _ _ (λ host. (lacking host).1) n into)))
          (λ n is. (is.0, λ into. is.1 (into_same specs _ _ (λ host. (lacking host).0) n into)))
          (rw c.as_slice.ensures.value at c.in_ok-astray_of.ensures);
      lacking = all_same _ _ _ c.in_ok-ids_to.field-0 (into_same specs _ _ (λ host. (lacking host).0))
          (into_same specs _ _ (λ host. (lacking host).1)) (rw c.as_slice-2.ensures.value at c.in_ok-ids_to.ensures);
    }
