use Rattle.std.proofs.Common.{refl}
use Rattle.virtiofs_findings.specs.Report.{kind_found}
use Rattle.virtiofs_findings.proofs.ListLemmas.{in_two}
use Rattle.virtiofs_findings.proofs.report.push_kind.Goals as goal

pub returns : goal.returns
returns g c =
    let inside = c.renumbers-inside.ensures in
    let ranges = c.as_slice-ranges.ensures.value in
    rw c.in-Some.is (record {
      more = kind_found c.args.number c.args.kind c.in-Some.set c.in_ok-astray.field-0 c.in_ok-kept.kept;
      is = record {
        ids = c.in_ok-astray.field-0;
        kept = c.in_ok-kept.kept;
        finds_ids = rw ranges at c.in_ok-astray.ensures;
        finds_kept = c.in_ok-kept.ensures;
        whole = refl;
      };
      added = in_two _ _ _ c.push_found-4.new.found.items _ (in_two _ _ _ c.push_found-3.new.found.items _
          (in_two _ _ _ c.push_found-2.new.found.items _ (in_two _ _ _ c.push_found.new.found.items _
          (rw c.told_range.ensures at c.in_ok-push_found.ensures)
          (rw c.then_some-differs.ensures at c.in_ok-push_found-2.ensures))
          (rw (c.told_ids.ensures, inside, ranges) at c.in_ok-push_found-3.ensures))
          (rw (c.told_ids-2.ensures, inside, ranges) at c.in_ok-push_found-4.ensures))
          (rw (c.told_ids-3.ensures, inside, ranges) at c.in_ok-push_found-5.ensures);
    })
