use Rattle.std.proofs.Common.{ap}
use Rattle.virtiofs_map.specs.Specifications.{texts_of}
use Rattle.virtiofs_findings.proofs.ListLemmas.{is_empty_here}
use Rattle.virtiofs_findings.proofs.SetUpLemmas.{adds_unknown}
use Rattle.virtiofs_findings.proofs.setup.read_ranges.Goals as goal

pub returns-then-is_empty-clause-says : goal.returns-then-is_empty-clause-says
returns-then-is_empty-clause-says g c =
    let none = ap texts_of (is_empty_here _ _ c.is_empty.ensures c.if-is_empty.true) in
    adds_unknown _ _ _ _ _ _ _ (c.if-by_another.true, none) c.in_ok-tell.ensures
