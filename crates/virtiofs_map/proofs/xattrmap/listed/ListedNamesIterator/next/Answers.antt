use Rattle.std.proofs.Common.{sym, ◌∙◌}
use Rattle.virtiofs_map.specs.declared.xattrmap.listed.Seen.TheVariants.{Hidden, Listed}
use Rattle.virtiofs_map.proofs.xattrmap.ListingLemmas.{listing_seen, one_less}
use Rattle.virtiofs_map.proofs.xattrmap.listed.ListedNamesIterator.next.Goals as goal

pub names-preserved : goal.names-preserved
names-preserved g c =
    let map = c.names.self-inside.map.now in
    let first = rw c.in-Hidden.is at c.first_seen.ensures.first map c.as_ref.ensures in
    sym (listing_seen {A = g.row.A.Denot} map c.names.self-inside.rest.now Hidden c.first_seen.result.1.now first)
    ∙ c.names.invariant

pub returns-in-Listed-clause-steps : goal.returns-in-Listed-clause-steps
returns-in-Listed-clause-steps g c =
    let map = c.names.self-inside.map.now in
    let first = rw c.in-Listed.is at c.first_seen.ensures.first map c.as_ref.ensures in
    sym c.names.invariant
    ∙ listing_seen {A = g.row.A.Denot} map c.names.self-inside.rest.now (Listed c.in-Listed.listed)
    c.first_seen.result.1.now first

pub returns-in-Listed-clause-goes : goal.returns-in-Listed-clause-goes
returns-in-Listed-clause-goes g c = one_less _ _ _ _ (returns-in-Listed-clause-steps g c)
