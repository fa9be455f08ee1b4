use Rattle.std.proofs.Common.{◌∙◌, None, refl}
use Rattle.std.proofs.lemmas.Result.{err_from_is_err_and}
use Rattle.virtiofs_map_c.specs.Texts.{LentSays, LentHas}
use Rattle.virtiofs_map_c.proofs.ListsLemmas.{says_more}
use Rattle.virtiofs_map_c.proofs.TextsLemmas.{texts_unread}
use Rattle.virtiofs_map_c.proofs.texts.read_all.Goals as goal

pub returns-in_err-spec-clause-refused : goal.returns-in_err-spec-clause-refused
returns-in_err-spec-clause-refused c =
    let (told, is, same) = err_from_is_err_and c.from_residual.result c.from_residual.ensures.1 in
    rw (is, same) (texts_unread _ _ _ _ _ _ _ _ c.loop-place-test.true c.loop-place.invariant.are
    c.loop-place.invariant.same c.in_err-spec.ensures.refused)

pub returns-in_err-push-clause-refused : goal.returns-in_err-push-clause-refused
returns-in_err-push-clause-refused c =
    let (told, is, numbers) = err_from_is_err_and c.from_residual-in_err-push.result c.from_residual-in_err-push.ensures.1 in
    rw is (None, tt, (refl, numbers, c.in_ok-spec.ensures.unquoted ∙ c.loop-place.invariant.same))

pub loop-place-preserved : goal.loop-place-preserved
loop-place-preserved c = record {
  are = rw c.in_ok-push.ensures.items
      (says_more LentSays LentHas _ _ _ _ _ c.loop-place-test.true c.loop-place.invariant.are c.in_ok-spec.ensures.read);
  same = c.in_ok-spec.ensures.unquoted ∙ c.loop-place.invariant.same;
}
