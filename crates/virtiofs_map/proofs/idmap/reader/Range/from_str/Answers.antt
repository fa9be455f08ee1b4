use Rattle.std.proofs.Common.{refl, arith}
use Rattle.std.proofs.lemmas.Result.{err_from_is_err_and}
use Rattle.virtiofs_map.proofs.NamespaceLemmas.{InvalidValue-parts}
use Rattle.virtiofs_map.proofs.idmap.reader.Range.from_str.Goals as goal

pub returns-in_err-inside-clause-refused : goal.returns-in_err-inside-clause-refused
returns-in_err-inside-clause-refused c =
    let p = err_from_is_err_and c.from_residual-in_err-inside.result c.from_residual-in_err-inside.ensures.1 in
    let found = c.in_ok-delimiter.ensures.found in
    let three = c.in-Some.ensures.three in
    rw (p.1, p.2) (InvalidValue-parts _ _ _ _ _ _ found three (0, omega arith, refl) c.in_err-inside.ensures.refused)

pub returns-in_err-outside-clause-refused : goal.returns-in_err-outside-clause-refused
returns-in_err-outside-clause-refused c =
    let p = err_from_is_err_and c.from_residual-in_err-outside.result c.from_residual-in_err-outside.ensures.1 in
    let found = c.in_ok-delimiter.ensures.found in
    let three = c.in-Some.ensures.three in
    rw (p.1, p.2)
    (InvalidValue-parts _ _ _ _ _ _ found three (1, omega arith, refl) c.in_err-outside.ensures.refused)

pub returns-in_err-count-clause-refused : goal.returns-in_err-count-clause-refused
returns-in_err-count-clause-refused c =
    let p = err_from_is_err_and c.from_residual-in_err-count.result c.from_residual-in_err-count.ensures.1 in
    let found = c.in_ok-delimiter.ensures.found in
    let three = c.in-Some.ensures.three in
    rw (p.1, p.2) (InvalidValue-parts _ _ _ _ _ _ found three (2, omega arith, refl) c.in_err-count.ensures.refused)
