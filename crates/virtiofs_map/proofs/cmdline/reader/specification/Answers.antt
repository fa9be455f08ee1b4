use Rattle.std.proofs.Common.{sym, ◌∙◌}
use Rattle.std.proofs.lemmas.Result.{err_from_is_err_and}
use Rattle.virtiofs_map.specs.declared.cmdline.IdMap.TheVariants.{Bidirectional, ForbidGuest}
use Rattle.virtiofs_map.proofs.SpecificationLemmas.{IsWordFault-count}
use Rattle.virtiofs_map.proofs.cmdline.reader.specification.Goals as goal

pub returns-in_err-guest-in-map-clause-refused : goal.returns-in_err-guest-in-map-clause-refused
returns-in_err-guest-in-map-clause-refused g c =
    let p = err_from_is_err_and c.from_residual.result c.from_residual.ensures.1 in
    rw (p.1, p.2)
    (IsWordFault-count (Bidirectional 0 0 0) _ _ _ (sym c.as_str.ensures.value ∙ c.in-map.is)
    c.in_err-guest-in-map.ensures.answer)

pub returns-in_err-from_guest-in-text-clause-refused : goal.returns-in_err-from_guest-in-text-clause-refused
returns-in_err-from_guest-in-text-clause-refused g c =
    let p = err_from_is_err_and c.from_residual-in_err-from_guest-in-text.result
    c.from_residual-in_err-from_guest-in-text.ensures.1 in
    rw (p.1, p.2)
    (IsWordFault-count (ForbidGuest 0 0) _ _ _ (sym c.as_str.ensures.value ∙ c.in-text.is)
    c.in_err-from_guest-in-text.ensures.answer)
