use Rattle.std.proofs.Common.{◌++◌, refl}
use Rattle.virtiofs_findings.proofs.ListLemmas.{in_two}
use Rattle.virtiofs_findings.proofs.names.audits.push_names.Goals as goal

pub returns : goal.returns
returns g c =
    let unruled = c.in_ok-push_unruled.ensures in
    let lost = c.in_ok-push_name.ensures in
    let stray = c.in_ok-push_name-2.ensures in
    let idle = c.in_ok-push_all_idle.ensures in
    rw c.in-Some.is (record {
      more = unruled.more ++ lost.more ++ stray.more ++ idle.more;
      is = record {
        of_unruled = unruled.more;
        of_lost = lost.more;
        of_stray = stray.more;
        of_idle = idle.more;
        unruled = unruled.is;
        lost = lost.is;
        stray = stray.is;
        idle = idle.is;
        whole = refl;
      };
      added = in_two _ _ _ c.push_name-2.new.found.items _ (in_two _ _ _ c.push_name.new.found.items _
          (in_two _ _ _ c.push_unruled.new.found.items _ unruled.added lost.added) stray.added) idle.added;
    })
