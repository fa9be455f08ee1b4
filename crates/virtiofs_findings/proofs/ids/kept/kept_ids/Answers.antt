use Rattle.virtiofs_findings.proofs.KeptLemmas.{kept_made}
use Rattle.virtiofs_findings.proofs.ListLemmas.{decides_not}
use Rattle.virtiofs_findings.proofs.ids.kept.kept_ids.Goals as goal

pub returns-then-not-are_mapped : goal.returns-then-not-are_mapped
returns-then-not-are_mapped g c =
    λ id keep. decides_not _ (rw (c.specs.ensures.specs, c.as_slice.ensures.value) at c.are_mapped.ensures)
    c.if-not-are_mapped.true keep.mapped

pub returns : goal.returns
returns g c =
    kept_made c.ids_to.result c.args.set.now.map c.args.set.now.ranges.items
    c.in_ok-uncovered.uncovered.items c.in_ok-kept.kept.items
    (rw (c.specs.ensures.specs, c.as_slice.ensures.value) at (c.are_mapped.ensures.0 c.if-not-are_mapped.false))
    (rw c.specs-2.ensures.specs at c.in_ok-uncovered.ensures)
    (rw (c.as_slice-2.ensures.value, c.as_slice-3.ensures.value) at c.in_ok-kept.ensures)
    (rw (c.empty-unmapped.ensures, c.as_slice-4.ensures.value) at c.ids_to.ensures)
