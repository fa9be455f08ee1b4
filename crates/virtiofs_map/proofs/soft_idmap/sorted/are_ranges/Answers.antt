use Rattle.virtiofs_map.proofs.SortedLemmas.{ranges_told}
use Rattle.virtiofs_map.proofs.soft_idmap.sorted.are_ranges.Goals as goal

pub returns-then-have_room : goal.returns-then-have_room
returns-then-have_room c = (
  λ yes'. ranges_told _ c.requires (c.have_room.ensures.0 c.if-have_room.true) (c.keep_apart.ensures.0 yes'),
  λ are. c.keep_apart.ensures.1 are.ordered,
)
