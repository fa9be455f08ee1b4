use Rattle.std.proofs.Common.{arith}
use Rattle.virtiofs_options.proofs.SearchLemmas.{find-here, find-next}
use Rattle.virtiofs_options.proofs.UnknownLemmas.{faults-some, faults-none}
use Rattle.virtiofs_options.specs.Unknown.{is_faulty}
use Rattle.virtiofs_options.proofs.unknown.check_parts.Goals as goal

pub returns-in-Some-clause-refused : goal.returns-in-Some-clause-refused
returns-in-Some-clause-refused c =
    let told = faults-some c.args.options _ _ c.in-Some.fault c.in_ok-fault.ensures c.in-Some.is in (
      _,
      find-here (is_faulty c.args.options) c.args.parts.now c.loop-part.part-index _ c.loop-part-test.true
          c.loop-part.invariant told.0,
      told.1,
    )

pub loop-part-preserved : goal.loop-part-preserved
loop-part-preserved c = grind (arith, find-next, faults-none)
