use Rattle.std.proofs.Common.{refl}
use Rattle.virtiofs_host.proofs.runner.bounds_shown.Goals as goal

pub returns-in-Ok-clause-shown : goal.returns-in-Ok-clause-shown
returns-in-Ok-clause-shown g c = record {
  runs_as = refl;
  as_one = refl;
  given = refl;
  ranges = c.in-Ok.ranges;
  says = c.in-Ok.ensures.read;
  shown = refl;
}
