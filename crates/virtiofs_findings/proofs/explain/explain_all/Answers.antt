use Rattle.virtiofs_findings.proofs.RefusalLemmas.{told_where_refused}
use Rattle.std.proofs.Common.{arith}
use Rattle.std.proofs.lemmas.Slice.Zip.{AllZip-long}
use Rattle.virtiofs_findings.specs.Guests.{SetsUp}
use Rattle.virtiofs_findings.proofs.explain.explain_all.Goals as goal

pub explain_guests-requires : goal.explain_guests-requires
explain_guests-requires c =
    rw c.as_slice.ensures.value
    (AllZip-long SetsUp c.args.guests.now c.in_ok-sets.sets.items c.in_ok-sets.ensures.sets_up)

pub returns : goal.returns
returns c = grind (arith, told_where_refused)
