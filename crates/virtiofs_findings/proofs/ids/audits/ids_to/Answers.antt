use Rattle.virtiofs_findings.proofs.IdLemmas.{runs_none, no_first, first_least}
use Rattle.virtiofs_findings.proofs.ids.audits.ids_to.Goals as goal

pub returns-in_default : goal.returns-in_default
returns-in_default g c =
    runs_none _ c.in_ok-ids.ids.items c.in_ok-ids.ensures.ids
    (no_first c.in_ok-ids.ids.items (rw c.as_slice.ensures.value at c.in_default.ensures.value))

pub unreachable-requires : goal.unreachable-requires
unreachable-requires g c =
    let least = first_least _ c.in_ok-ids.ids.items c.in-Some.span.now c.in_ok-ids.ensures.ids c.in_ok-ids.ensures.runs
    (rw c.as_slice.ensures.value at c.in-Some.ensures.value) in
    (rw c.from-guest.ensures at c.in_default-map_guest.ensures.looks_up.complete) _ least.is_bad.goes.becomes

pub returns : goal.returns
returns g c =
    let least = first_least _ c.in_ok-ids.ids.items c.in-Some.span.now c.in_ok-ids.ensures.ids c.in_ok-ids.ensures.runs
    (rw c.as_slice.ensures.value at c.in-Some.ensures.value) in
    rw (c.into_inner.ensures, c.into_inner-2.ensures, c.from-guest.ensures) (record {
      each = c.in_ok-ids.ensures.ids;
      runs = c.in_ok-ids.ensures.runs;
      least = least;
      tells = record {
        is_id = least.is_bad.goes.is_id;
        becomes = rw c.from-guest.ensures at c.in-Ok.ensures.looks_up.value;
      };
    })
