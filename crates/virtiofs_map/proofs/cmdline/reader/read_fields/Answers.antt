use Rattle.std.proofs.Common.{◌++◌, ◌∷◌, [], List, ℕ, ap, sym, ◌∙◌, rules, append_assoc, chars}
use Rattle.std.proofs.lemmas.Result.{err_from_is_err_and}
use Rattle.virtiofs_map.specs.Numeral.{IsNumeral}
use Rattle.virtiofs_map.proofs.SpecificationLemmas.{split_at_each-cut, IsFieldsFault-here}
use Rattle.virtiofs_map.proofs.ZipLemmas.{AllZip-push}
use Rattle.virtiofs_map.proofs.cmdline.reader.read_fields.Goals as goal

pub returns-in_err-read_field-clause-refused : goal.returns-in_err-read_field-clause-refused
returns-in_err-read_field-clause-refused g c =
    let p = err_from_is_err_and c.from_residual.result c.from_residual.ensures.1 in
    let (done, so_far, read) = c.loop-field.invariant.1 in
    let s = c.in-Some.ensures in
    let next = split_at_each-cut c.args.separator _ _ _ s.whole s.first in
    rw (p.1, p.2)
    (IsFieldsFault-here _ done _ _ _ _ (so_far ∙ ap (λ (xs : List (List ℕ)). done ++ xs) next) read
    c.in_err-read_field.ensures.answer)

pub loop-field-preserved : goal.loop-field-preserved
loop-field-preserved g c =
    let (done, so_far, read) = c.loop-field.invariant.1 in
    let s = c.in-Some.ensures in
    let next = split_at_each-cut c.args.separator _ _ _ s.whole s.first in
    let field = chars c.in-Some.field.now in (
      search rules,
      (
        done ++ field ∷ [],
        so_far ∙ ap (λ (xs : List (List ℕ)). done ++ xs) next ∙ sym (append_assoc done (field ∷ []) _),
        rw c.in_ok-push.ensures.items (AllZip-push IsNumeral done _ field _ read c.in_ok-read_field.ensures.answer),
      ),
    )
