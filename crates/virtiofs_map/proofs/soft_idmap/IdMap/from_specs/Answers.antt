use Rattle.std.proofs.lemmas.Result.{err_from_is_err_and}
use Rattle.virtiofs_map.specs.Specifications.{texts_of, HasSpecsFault}
use Rattle.virtiofs_map.proofs.ReaderLemmas.{told_fault}
use Rattle.virtiofs_map.proofs.SpecificationsLemmas.{HasSpecsFault-one}
use Rattle.virtiofs_map.proofs.soft_idmap.IdMap.from_specs.Goals as goal

pub returns-in_err-specs-clause-faulty : goal.returns-in_err-specs-clause-faulty
returns-in_err-specs-clause-faulty g c = λ fault has.
    let p = err_from_is_err_and c.from_residual.result c.from_residual.ensures.1 in
    let texts = texts_of c.args.texts.now in
    rw (p.1, p.2)
    (told_fault _ (HasSpecsFault texts) fault c.in_err-specs.ensures.refused
    (λ other told. HasSpecsFault-one texts other fault told has))

pub returns-clause-order : goal.returns-clause-order
returns-clause-order g c = rw c.in_ok-map.ensures.read c.in_ok-map.ensures.order
