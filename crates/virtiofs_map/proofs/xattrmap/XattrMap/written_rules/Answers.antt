use Rattle.std.proofs.lemmas.Result.{err_from_is_err_and}
use Rattle.std.specs.Str.{chars}
use Rattle.virtiofs_map.proofs.ReaderLemmas.{out_of_memory, told_fault}
use Rattle.virtiofs_map.proofs.RuleTextLemmas.{one_count, no_fault_counted, one_fault}
use Rattle.virtiofs_map.proofs.xattrmap.XattrMap.written_rules.Goals as goal

pub returns-in_err-written-clause-complete : goal.returns-in_err-written-clause-complete
returns-in_err-written-clause-complete g c = λ count counts.
    (let p = err_from_is_err_and c.from_residual.result c.from_residual.ensures.1 in
    rw (p.1, p.2) (out_of_memory _ _ c.in_err-written.ensures.refused (λ fault. no_fault_counted _ count fault counts)))

pub returns-in_err-written-clause-faulty : goal.returns-in_err-written-clause-faulty
returns-in_err-written-clause-faulty g c = λ fault wrong.
    (let p = err_from_is_err_and c.from_residual.result c.from_residual.ensures.1 in
    rw (p.1, p.2)
    (told_fault _ _ fault c.in_err-written.ensures.refused
    (λ told is. one_fault (chars c.args.text.now) told fault is wrong)))

pub returns-clause-complete : goal.returns-clause-complete
returns-clause-complete g c = λ count counts. one_count _ _ count c.in_ok-written.ensures.counted counts

pub returns-clause-faulty : goal.returns-clause-faulty
returns-clause-faulty g c = λ fault wrong. no_fault_counted _ _ fault c.in_ok-written.ensures.counted wrong
