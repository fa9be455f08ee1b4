use Rattle.std.proofs.lemmas.Result.{err_from_is_err_and}
use Rattle.virtiofs_map.specs.Build.{HasFirstFault}
use Rattle.virtiofs_map.proofs.BuildLemmas.{HasFirstFault-one}
use Rattle.virtiofs_map.proofs.MappingLawLemmas.{IsOrderFree-accepted}
use Rattle.virtiofs_map.proofs.ReaderLemmas.{told_fault}
use Rattle.virtiofs_map.proofs.soft_idmap.IdMap.try_from.Goals as goal

pub returns-in_err-words-clause-faulty : goal.returns-in_err-words-clause-faulty
returns-in_err-words-clause-faulty g c = λ fault has.
    let p = err_from_is_err_and c.from_residual.result c.from_residual.ensures.1 in
    let specs = c.args.specs.items in
    let refused = rw c.deref.ensures.value at c.in_err-words.ensures in
    rw (p.1, p.2)
    (told_fault _ (HasFirstFault specs) fault refused (λ other told. HasFirstFault-one specs other fault told has))

pub returns-clause-order : goal.returns-clause-order
returns-clause-order g c =
    IsOrderFree-accepted c.args.specs.items (rw c.deref.ensures.value at c.in_ok-words.ensures).accepted
