use Rattle.virtiofs_map.proofs.BuildLemmas.{reached, Accepted-more}
use Rattle.virtiofs_map.proofs.soft_idmap.build.accepted_ranges.Goals as goal

pub check_direction-requires-clause-reached : goal.check_direction-requires-clause-reached
check_direction-requires-clause-reached g c =
    let longest = c.in_ok-index.ensures in
    reached _ _ _ _ longest.below longest.accepted (λ same. absurd (cc))

pub check_direction-requires-2-clause-reached : goal.check_direction-requires-2-clause-reached
check_direction-requires-2-clause-reached g c =
    let longest = c.in_ok-index.ensures in
    reached _ _ _ _ longest.below longest.accepted (λ _. c.in_ok-check_direction.ensures)

pub unreachable-requires : goal.unreachable-requires
unreachable-requires g c =
    let longest = c.in_ok-index.ensures in
    longest.refused
    (Accepted-more c.args.specs.now c.in_ok-index.index _ longest.below longest.accepted
    c.in_ok-check_direction.ensures c.in_ok-check_direction-2.ensures)
