use Rattle.std.proofs.Common.{ℕ, List, get_or, ap}
use Rattle.virtiofs_options.proofs.TextLemmas.{joins_long}
use Rattle.virtiofs_options.proofs.command.long_value.Goals as goal

pub returns : goal.returns
returns c =
    let (n, found, boundary) = c.if-not-starts_with.ensures.cases in
    joins_long _ _ c.split_once.ensures.cases (ap (λ (w : List ℕ). get_or w 0 0) found.1)
    (ap (λ (w : List ℕ). get_or w 1 0) found.1)
