use Rattle.std.proofs.Common.{sym, ◌∙◌, rules}
use Rattle.std.proofs.lemmas.Result.{err_from_is_err_and}
use Rattle.virtiofs_map.specs.declared.cmdline.IdMap.TheVariants.{Guest, Host, SquashGuest, SquashHost}
use Rattle.std.proofs.lemmas.Str.{IsUtf8-string_bytes}
use Rattle.virtiofs_map.proofs.SpecificationLemmas.{IsWordFault-count, IsWordFault-unknown}
use Rattle.virtiofs_map.proofs.cmdline.reader.one_way.Goals as goal

pub returns-in_err-from_guest-in-guest-clause-refused : goal.returns-in_err-from_guest-in-guest-clause-refused
returns-in_err-from_guest-in-guest-clause-refused g c =
    let p = err_from_is_err_and c.from_residual.result c.from_residual.ensures.1 in
    rw (p.1, p.2)
    (IsWordFault-count (Guest 0 0 0) _ _ _ (sym c.as_str.ensures.value ∙ c.in-guest.is)
    c.in_err-from_guest-in-guest.ensures.answer)

pub returns-in_err-from_host-in-host-clause-refused : goal.returns-in_err-from_host-in-host-clause-refused
returns-in_err-from_host-in-host-clause-refused g c =
    let p = err_from_is_err_and c.from_residual-in_err-from_host-in-host.result
    c.from_residual-in_err-from_host-in-host.ensures.1 in
    rw (p.1, p.2)
    (IsWordFault-count (Host 0 0 0) _ _ _ (sym c.as_str.ensures.value ∙ c.in-host.is)
    c.in_err-from_host-in-host.ensures.answer)

pub returns-in_err-from_guest-in-text-clause-refused : goal.returns-in_err-from_guest-in-text-clause-refused
returns-in_err-from_guest-in-text-clause-refused g c =
    let p = err_from_is_err_and c.from_residual-in_err-from_guest-in-text.result
    c.from_residual-in_err-from_guest-in-text.ensures.1 in
    rw (p.1, p.2)
    (IsWordFault-count (SquashGuest 0 0 0) _ _ _ (sym c.as_str.ensures.value ∙ c.in-text.is)
    c.in_err-from_guest-in-text.ensures.answer)

pub returns-in_err-from_host-in-text-2-clause-refused : goal.returns-in_err-from_host-in-text-2-clause-refused
returns-in_err-from_host-in-text-2-clause-refused g c =
    let p = err_from_is_err_and c.from_residual-in_err-from_host-in-text-2.result
    c.from_residual-in_err-from_host-in-text-2.ensures.1 in
    rw (p.1, p.2)
    (IsWordFault-count (SquashHost 0 0 0) _ _ _ (sym c.as_str.ensures.value ∙ c.in-text-2.is)
    c.in_err-from_host-in-text-2.ensures.answer)

pub returns-in_default-clause-refused : goal.returns-in_default-clause-refused
returns-in_default-clause-refused g c =
    IsWordFault-unknown _ _ (IsUtf8-string_bytes c.args.word) (search rules)
