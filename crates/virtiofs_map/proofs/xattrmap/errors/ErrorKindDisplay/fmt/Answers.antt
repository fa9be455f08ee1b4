use Rattle.virtiofs_map.proofs.xattrmap.errors.ErrorKindDisplay.fmt.Goals as goal

pub returns-in-InvalidType-clause-writes : goal.returns-in-InvalidType-clause-writes
returns-in-InvalidType-clause-writes g c plain ok =
    rw c.in-InvalidType.is (c.write-in-InvalidType.ensures.writes plain ok)
