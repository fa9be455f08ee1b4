use Rattle.virtiofs_host.proofs.CutLemmas.{Lacks-not}
use Rattle.std.proofs.Common.{arith}
use Rattle.std.proofs.lemmas.Option.{MatchOption-at_none, MatchOption-at_some}
use Rattle.virtiofs_host.proofs.IdMapLemmas.{no_range}
use Rattle.virtiofs_host.proofs.id_map.first_range.Goals as goal

pub returns-in_err-rest-clause-none : goal.returns-in_err-rest-clause-none
returns-in_err-rest-clause-none c = grind (arith, Lacks-not, MatchOption-at_none)

pub returns-in_err-range-clause-none : goal.returns-in_err-range-clause-none
returns-in_err-range-clause-none c = rw c.from_residual-in_err-range.ensures
    (no_range _ _ _
    (MatchOption-at_some _ _ _ c.in_ok-rest.was c.cut.ensures.whole) c.cut.ensures.first c.in_err-range.ensures.none)
