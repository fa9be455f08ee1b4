use Rattle.std.proofs.Common.{inl, inr, arith}
use Rattle.virtiofs_map_c.proofs.ArraysLemmas.{AreSaid-long, array_no_fault, array_complete, array_faulty, array_made}
use Rattle.virtiofs_map_c.proofs.ids.virtiofs_map_ids_make.Goals as goal

pub returns-in-Ok-clause-bound : goal.returns-in-Ok-clause-bound
returns-in-Ok-clause-bound c = omega (arith, c.make.ensures.bound, AreSaid-long _ _ c.in-Ok.ensures.read)

pub returns-in-Ok-clause-refused : goal.returns-in-Ok-clause-refused
returns-in-Ok-clause-refused c = λ failed.
    elim (array_made c.args.specs.now c.make.result c.make.new.fault c.deref.result.now
    (rw c.deref.ensures.value c.in-Ok.ensures.read) (λ answered. (c.make.ensures.made answered).accepted)
    c.make.ensures.refused) [
      | inl it ↦ absurd (failed it.1)
      | inr told ↦ told
    ]

pub returns-in-Ok-clause-complete : goal.returns-in-Ok-clause-complete
returns-in-Ok-clause-complete c = λ is.
    elim (array_made c.args.specs.now c.make.result c.make.new.fault c.deref.result.now
    (rw c.deref.ensures.value c.in-Ok.ensures.read) (λ answered. (c.make.ensures.made answered).accepted)
    c.make.ensures.refused) [
      | inl it ↦ inl it.1
      | inr told ↦ array_complete _ _ _ _ told is
    ]

pub returns-in-Ok-clause-faulty : goal.returns-in-Ok-clause-faulty
returns-in-Ok-clause-faulty c = λ wrong has.
    elim (array_made c.args.specs.now c.make.result c.make.new.fault c.deref.result.now
    (rw c.deref.ensures.value c.in-Ok.ensures.read) (λ answered. (c.make.ensures.made answered).accepted)
    c.make.ensures.refused) [
      | inl it ↦ absurd (array_no_fault _ it.0 wrong has)
      | inr told ↦ array_faulty _ _ _ told wrong has
    ]

pub returns-in-Err-clause-complete : goal.returns-in-Err-clause-complete
returns-in-Err-clause-complete c = λ is.
    rw (c.fail.ensures.code, c.fail.ensures.told)
    (array_complete _ _ _ _ c.in-Err.ensures.refused is)

pub returns-in-Err-clause-faulty : goal.returns-in-Err-clause-faulty
returns-in-Err-clause-faulty c = λ wrong has.
    rw (c.fail.ensures.code, c.fail.ensures.told)
    (array_faulty _ _ _ c.in-Err.ensures.refused wrong has)
