use Rattle.std.specs.Str.{chars}
use Rattle.virtiofs_map.specs.SpecificationText.{Says, HasSpecificationFault, specification_fault_of}
use Rattle.virtiofs_map.proofs.ReaderLemmas.{complete, faulty}
use Rattle.virtiofs_map.proofs.SpecificationLawLemmas.{Says-one, Says-no_fault, HasSpecificationFault-one}
use Rattle.virtiofs_map.proofs.cmdline.IdMap.from_str.Goals as goal

pub returns-clause-complete : goal.returns-clause-complete
returns-clause-complete g c = λ spec says.
    let text = chars c.args.text.now in
    complete specification_fault_of (Says text) (HasSpecificationFault text) _ c.read.ensures.read
    c.read.ensures.refused
    spec (λ other told. Says-one text other spec told says) (λ fault. Says-no_fault text spec fault says)

pub returns-clause-faulty : goal.returns-clause-faulty
returns-clause-faulty g c = λ fault has.
    let text = chars c.args.text.now in
    faulty specification_fault_of (Says text) (HasSpecificationFault text) _ c.read.ensures.read c.read.ensures.refused
    fault (λ spec says. Says-no_fault text spec fault says has)
    (λ other told. HasSpecificationFault-one text other fault told has)
