use Rattle.std.proofs.Common.{refl}
use Rattle.virtiofs_id_audit.proofs.ApartLemmas.{AreRuns-firsts, cut_twice}
use Rattle.virtiofs_id_audit.proofs.images.merged.Goals as goal

pub without-requires-2-clause-firsts : goal.without-requires-2-clause-firsts
without-requires-2-clause-firsts g c = rw c.deref-2.ensures.value (AreRuns-firsts _ c.in_ok-free.ensures.runs)

pub returns-clause-hold : goal.returns-clause-hold
returns-clause-hold g c =
    cut_twice (record { first = 0; last = 4294967295 }) _ _ _ _ refl refl c.in_ok-sorted.ensures.spans
    c.in_ok-sorted.ensures.times (rw c.deref.ensures.value at c.in_ok-free.ensures.hold)
    (rw c.deref-2.ensures.value at c.in_ok-merged.ensures.hold)
