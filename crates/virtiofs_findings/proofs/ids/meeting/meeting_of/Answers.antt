use Rattle.virtiofs_findings.proofs.IdLemmas.{into_same, runs_none, no_first, first_least}
use Rattle.virtiofs_findings.proofs.ids.meeting.meeting_of.Goals as goal

pub returns-in_default : goal.returns-in_default
returns-in_default g c =
    let same = rw c.as_slice.ensures.value at c.in_ok-hosts.ensures in
    let each = rw c.as_slice-2.ensures.value at c.in_ok-ids.ensures.ids in
    λ n into. runs_none _ _ each (no_first _ (rw c.as_slice-3.ensures.value at c.in_default.ensures.value)) n
    (into_same _ _ _ (λ inside. (same inside).1) n into)

pub unreachable-requires : goal.unreachable-requires
unreachable-requires g c =
    let each = rw c.as_slice-2.ensures.value at c.in_ok-ids.ensures.ids in
    let least = first_least _ _ _ each c.in_ok-ids.ensures.runs (rw c.as_slice-3.ensures.value at c.in-Some.ensures.value) in
    (rw c.from-guest.ensures at c.in_default-map_guest.ensures.looks_up.complete) _ least.is_bad.goes.becomes

pub unreachable-requires-in_default-met : goal.unreachable-requires-in_default-met
unreachable-requires-in_default-met g c =
    let same = rw c.as_slice.ensures.value at c.in_ok-hosts.ensures in
    let each = rw c.as_slice-2.ensures.value at c.in_ok-ids.ensures.ids in
    let least = first_least _ _ _ each c.in_ok-ids.ensures.runs (rw c.as_slice-3.ensures.value at c.in-Some.ensures.value) in
    let here = (rw c.from-guest.ensures at c.in-Ok.ensures.looks_up.complete) _ least.is_bad.goes.becomes in
    let none = rw (c.as_slice-4.ensures.value, c.into_inner.ensures, c.in_default-met.is) at c.in_ok-met.ensures in
    none (rw (← here) at ((same _).0 least.is_bad.is_one))

pub returns : goal.returns
returns g c =
    let same = rw c.as_slice.ensures.value at c.in_ok-hosts.ensures in
    let each = rw c.as_slice-2.ensures.value at c.in_ok-ids.ensures.ids in
    let least = first_least _ _ _ each c.in_ok-ids.ensures.runs (rw c.as_slice-3.ensures.value at c.in-Some.ensures.value) in
    let met = rw (c.as_slice-4.ensures.value, c.into_inner.ensures, c.in-Some-met.is) at c.in_ok-met.ensures in
    rw (c.into_inner-2.ensures, c.from-guest.ensures) (record {
      each = λ n. (
        (λ held. into_same _ _ _ (λ inside. (same inside).0) n ((each n).0 held)),
        (λ into. (each n).1 (into_same _ _ _ (λ inside. (same inside).1) n into)),
      );
      runs = c.in_ok-ids.ensures.runs;
      least = record {
        is_bad = into_same _ _ _ (λ inside. (same inside).0) _ least.is_bad;
        none_before = λ m before into. least.none_before m before (into_same _ _ _ (λ inside. (same inside).1) m into);
      };
      tells = record {
        is = record {
          host = c.in-Ok.inside;
          goes = record {
            is_id = least.is_bad.goes.is_id;
            becomes = rw c.from-guest.ensures at c.in-Ok.ensures.looks_up.value;
          };
          is_one = met.0;
        };
        other = met.1;
      };
    })
