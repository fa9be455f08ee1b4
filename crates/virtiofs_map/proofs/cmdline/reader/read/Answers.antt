use Rattle.virtiofs_map.proofs.SpecificationLemmas.{refused-word}
use Rattle.virtiofs_map.proofs.cmdline.reader.read.Goals as goal

pub returns-clause-refused : goal.returns-clause-refused
returns-clause-refused g c =
    let cut = rw c.in-Some.is at c.in_ok-cut.ensures.cut in
    let read = rw (← c.deref.ensures.value) at c.in_ok-numbers.ensures.read in
    refused-word _ _ _ _ _ cut read c.specification.ensures.refused
