use Rattle.std.proofs.Common.{◌≡◌, rules}
use Rattle.std.proofs.lemmas.Fn.{always_returns_same}
use Rattle.virtiofs_map.specs.RangeParts.{precedes}
use Rattle.virtiofs_map.proofs.SortedLemmas.{Precedes-next}
use Rattle.virtiofs_map.proofs.soft_idmap.sorted.keep_apart.Goals as goal

pub returns : goal.returns
returns c =
    Precedes-next c.args.sorted.now c.is_sorted_by.result
    (c.is_sorted_by.ensures.cases precedes
    (always_returns_same _ (λ a r. r ≡ precedes a.0.now a.1.0.now) _ (λ a r q k. search rules)))
