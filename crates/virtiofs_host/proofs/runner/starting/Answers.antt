use Rattle.std.proofs.Common.{arith, refl}
use Rattle.virtiofs_host.proofs.runner.starting.Goals as goal

pub returns : goal.returns
returns g c =
    let users = c.in_ok-given_to.field-0.items in
    let groups = c.in_ok-given_to-2.field-0.items in
    record {
      runs_as = refl;
      in_group = refl;
      as_one = refl;
      in_one = refl;
      given_users = c.in_ok-given_to.field-0;
      given_groups = c.in_ok-given_to-2.field-0;
      users_given = refl;
      groups_given = refl;
      users = grind arith;
      groups = grind arith;
      no_users = refl;
      no_groups = refl;
      starts = refl;
      at = refl;
    }
