use Rattle.std.proofs.Common.{refl}
use Rattle.virtiofs_findings.proofs.IdLemmas.{into_same, moved_one}
use Rattle.virtiofs_findings.proofs.ids.meeting.met_at.Goals as goal

pub returns-in_default : goal.returns-in_default
returns-in_default g c = λ (small, (guest, into)).
    let moved = moved_one _ _ _ _ refl refl (rw c.as_slice.ensures.value at c.in_ok-inside.ensures) in
    let none = rw (c.as_slice-2.ensures.value, c.in_default.is) at c.in_ok-guest.ensures in
    none guest (into_same _ _ _ (λ inside. (moved inside).1) _ into)

pub returns : goal.returns
returns g c =
    let moved = moved_one _ _ _ _ refl refl (rw c.as_slice.ensures.value at c.in_ok-inside.ensures) in
    let least = rw (c.as_slice-2.ensures.value, c.in-Some.is) at c.in_ok-guest.ensures in (
      refl,
      rw c.into_inner.ensures (record {
        is_bad = into_same _ _ _ (λ inside. (moved inside).0) _ least.is_bad;
        none_before = λ m before into. least.none_before m before (into_same _ _ _ (λ inside. (moved inside).1) m into);
      }),
    )
