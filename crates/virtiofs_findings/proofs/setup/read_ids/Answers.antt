use Rattle.std.proofs.Common.{inr}
use Rattle.virtiofs_findings.proofs.SetUpLemmas.{adds_ids}
use Rattle.virtiofs_findings.proofs.setup.read_ids.Goals as goal

pub returns-clause-says : goal.returns-clause-says
returns-clause-says g c = adds_ids _ _ _ _ _ _ _ _ c.specs_of.ensures c.written_of-texts.ensures c.in_ok-map.ensures.says
    (rw c.is_by_another-another.ensures at c.in_ok-ranges.ensures.says)

pub returns-in_default-clause-says : goal.returns-in_default-clause-says
returns-in_default-clause-says g c = adds_ids _ _ _ _ _ _ _ _ c.specs_of.ensures c.written_of-texts.ensures
    c.in_ok-map.ensures.says (rw c.is_by_another-another.ensures at c.in_ok-ranges.ensures.says)

pub returns-in_default-ranges-clause-says : goal.returns-in_default-ranges-clause-says
returns-in_default-ranges-clause-says g c = adds_ids _ _ _ _ _ _ _ _ c.specs_of.ensures c.written_of-texts.ensures
    c.in_ok-map.ensures.says (rw c.is_by_another-another.ensures at c.in_ok-ranges.ensures.says)

pub returns-in_default-ranges-clause-read : goal.returns-in_default-ranges-clause-read
returns-in_default-ranges-clause-read g c = inr (rw (
  c.in_default-ranges.is,
  c.is_by_another-another.ensures,
  c.written_of-texts.ensures,
) at c.in_ok-ranges.ensures.read)
