use Rattle.std.proofs.Common.{sym, arith}
use Rattle.std.proofs.lemmas.Bool.{not-false}
use Rattle.virtiofs_id_audit.proofs.extents.runs.RunLemmas.{IsRun-starts}
use Rattle.virtiofs_id_audit.proofs.extents.runs.run_astray.Goals as goal

pub returns : goal.returns
returns g c =
    let there = c.stretch-there.ensures in
    let trip = c.run_trip-run.ensures.run in
    IsRun-starts _ _ _ _ _ _ there.accepted
    ((trip.each c.args.n (omega arith) trip.from).0 (not-false _ c.if-not-run.false)) there.stretch there.first
    (sym c.if-not-is_one_to_one.ensures) c.requires.starts c.run_in-next.ensures c.if-next.false
    (omega (arith, c.min.ensures, c.min-2.ensures))
