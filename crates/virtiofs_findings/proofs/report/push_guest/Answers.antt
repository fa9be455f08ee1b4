use Rattle.std.proofs.Common.{◌++◌, refl}
use Rattle.virtiofs_findings.specs.Report.{start_found}
use Rattle.virtiofs_findings.proofs.ListLemmas.{in_two}
use Rattle.virtiofs_findings.proofs.report.push_guest.Goals as goal

pub returns : goal.returns
returns g c =
    let users = c.in_ok-push_kind.ensures in
    let groups = c.in_ok-push_kind-2.ensures in
    let root = c.in_ok-push_root.ensures in
    let names = c.in_ok-push_names.ensures in
    let acl = c.in_ok-push_acl.ensures in record {
      more = start_found c.args.number c.args.set.now ++ users.more ++ groups.more ++ root.more ++ names.more ++ acl.more;
      is = record {
        of_users = users.more;
        of_groups = groups.more;
        of_root = root.more;
        of_names = names.more;
        of_acl = acl.more;
        users = users.is;
        groups = groups.is;
        root = root.is;
        names = names.is;
        acl = acl.is;
        whole = refl;
      };
      added = in_two _ _ _ c.push_names.new.found.items _ (in_two _ _ _ c.push_root.new.found.items _
          (in_two _ _ _ c.push_kind-2.new.found.items _ (in_two _ _ _ c.push_kind.new.found.items _
          (in_two _ _ _ c.push_start.new.found.items _ c.in_ok-push_start.ensures users.added) groups.added) root.added)
          names.added) acl.added;
    }
