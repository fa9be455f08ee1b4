use Rattle.std.proofs.Common.{inr}
use Rattle.std.proofs.lemmas.Result.{err_from_is_err_and}
use Rattle.virtiofs_map.proofs.RuleFieldLemmas.{some_and, key_fault, prepend_fault}
use Rattle.virtiofs_map.proofs.xattrmap.reader.fields.Goals as goal

pub returns-in_err-key-clause-err : goal.returns-in_err-key-clause-err
returns-in_err-key-clause-err g c =
    let p = err_from_is_err_and c.from_residual-in_err-key.result c.from_residual-in_err-key.ensures.1 in
    rw (p.1, p.2)
    (inr (some_and _ _ _ (λ cause. key_fault _ _ _ _ cause c.in_ok-head.ensures.ok) c.in_err-key.ensures.err))

pub returns-in_err-prepend-clause-err : goal.returns-in_err-prepend-clause-err
returns-in_err-prepend-clause-err g c =
    let p = err_from_is_err_and c.from_residual-in_err-prepend.result c.from_residual-in_err-prepend.ensures.1 in
    rw (p.1, p.2)
    (inr (some_and _ _ _
    (λ cause. prepend_fault _ _ _ _ _ _ cause c.in_ok-head.ensures.ok c.in_ok-key.ensures.ok
    c.in_ok-key.ensures.no_nul) c.in_err-prepend.ensures.err))
