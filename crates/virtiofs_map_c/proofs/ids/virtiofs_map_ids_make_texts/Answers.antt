use Rattle.std.proofs.Common.{inl, inr, arith}
use Rattle.std.proofs.lemmas.Slice.Zip.{AllZip-long}
use Rattle.virtiofs_map_c.specs.Texts.{LentSays}
use Rattle.virtiofs_map_c.proofs.TextsLemmas.{AreAccepted-no_fault, texts_complete, texts_faulty, texts_made, texts_tell}
use Rattle.virtiofs_map_c.proofs.ids.virtiofs_map_ids_make_texts.Goals as goal

pub returns-in-Ok-clause-bound : goal.returns-in-Ok-clause-bound
returns-in-Ok-clause-bound c =
    omega (arith, c.make.ensures.bound, AllZip-long LentSays c.args.texts.now _ c.in-Ok.ensures.read)

pub returns-in-Ok-clause-refused : goal.returns-in-Ok-clause-refused
returns-in-Ok-clause-refused c = λ failed.
    elim (texts_made c.args.texts.now c.make.result c.make.new.fault _ _ c.deref.result.now c.in-Ok.ensures.unquoted
    (rw c.deref.ensures.value c.in-Ok.ensures.read) (λ answered. (c.make.ensures.made answered).accepted)
    c.make.ensures.refused) [
      | inl it ↦ absurd (failed it.1)
      | inr told ↦ told
    ]

pub returns-in-Ok-clause-complete : goal.returns-in-Ok-clause-complete
returns-in-Ok-clause-complete c = λ is.
    elim (texts_made c.args.texts.now c.make.result c.make.new.fault _ _ c.deref.result.now c.in-Ok.ensures.unquoted
    (rw c.deref.ensures.value c.in-Ok.ensures.read) (λ answered. (c.make.ensures.made answered).accepted)
    c.make.ensures.refused) [
      | inl it ↦ inl it.1
      | inr told ↦ texts_complete _ _ _ _ _ _ told is
    ]

pub returns-in-Ok-clause-faulty : goal.returns-in-Ok-clause-faulty
returns-in-Ok-clause-faulty c = λ wrong has.
    elim (texts_made c.args.texts.now c.make.result c.make.new.fault _ _ c.deref.result.now c.in-Ok.ensures.unquoted
    (rw c.deref.ensures.value c.in-Ok.ensures.read) (λ answered. (c.make.ensures.made answered).accepted)
    c.make.ensures.refused) [
      | inl it ↦ absurd (AreAccepted-no_fault _ it.0 wrong has)
      | inr told ↦ texts_faulty _ _ _ _ _ told wrong has
    ]

pub returns-in-Err-clause-complete : goal.returns-in-Err-clause-complete
returns-in-Err-clause-complete c = λ is.
    texts_complete _ _ _ _ _ _
    (texts_tell _ _ _ _ _ _ c.fail.ensures.code c.fail.ensures.told c.in-Err.ensures.refused) is

pub returns-in-Err-clause-faulty : goal.returns-in-Err-clause-faulty
returns-in-Err-clause-faulty c = λ wrong has.
    texts_faulty _ _ _ _ _
    (texts_tell _ _ _ _ _ _ c.fail.ensures.code c.fail.ensures.told c.in-Err.ensures.refused) wrong has
