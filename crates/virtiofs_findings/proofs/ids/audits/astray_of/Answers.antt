use Rattle.virtiofs_findings.proofs.IdLemmas.{first_least}
use Rattle.virtiofs_findings.proofs.ids.audits.astray_of.Goals as goal

pub unreachable-requires : goal.unreachable-requires
unreachable-requires g c =
    let least = first_least _ c.in_ok-ids.ids.items c.in-Some.span.now c.in_ok-ids.ensures.ids c.in_ok-ids.ensures.runs
    (rw c.as_slice.ensures.value at c.in-Some.ensures.value) in
    (rw c.from-guest.ensures at c.in_default-map_guest.ensures.looks_up.complete) _ least.is_bad.0.goes.becomes

pub returns : goal.returns
returns g c =
    let least = first_least _ c.in_ok-ids.ids.items c.in-Some.span.now c.in_ok-ids.ensures.ids c.in_ok-ids.ensures.runs
    (rw c.as_slice.ensures.value at c.in-Some.ensures.value) in
    rw (c.into_inner.ensures, c.into_inner-2.ensures, c.into_inner-3.ensures, c.from-guest.ensures) (record {
      each = c.in_ok-ids.ensures.ids;
      runs = c.in_ok-ids.ensures.runs;
      least = least;
      tells = record {
        wanders = record {
          goes = record {
            is_id = least.is_bad.0.goes.is_id;
            becomes = rw c.from-guest.ensures at c.in-Ok.ensures.looks_up.value;
          };
          becomes = c.in-Ok-map_host.ensures.looks_up.value;
        };
        shared = c.goes_to.ensures;
      };
    })
