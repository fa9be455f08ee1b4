use Rattle.std.proofs.Common.{◌<◌, length, arith, rules}
use Rattle.virtiofs_map_c.proofs.ShownLemmas.{then_named, fits, too_long}
use Rattle.virtiofs_map.proofs.ForCallers.{short_more, shorter_more}
use Rattle.virtiofs_map_c.proofs.names.shown.write_shown.Goals as goal

pub names-preserved : goal.names-preserved
names-preserved c = record {
  listed = λ map is.
      then_named map c.args.list.now c.names.rest.now c.first_shown.result.1.now c.names.end c.args.out.now _
      (c.names.invariant.listed map is) c.in-Name.name c.put_name-end.result _
      (rw c.in-Name.is at c.first_shown.ensures.first map is) c.put_name-end.ensures.behind
      c.put_name-end.ensures.holds;
  same = omega (arith, c.put_name-end.ensures.same, c.names.invariant.same);
  short =
      (let some : 0 < length c.names.rest.now = search rules in
      short_more _ _ _ _ _ _ c.put_name-end.ensures.behind some c.names.invariant.shorter
      (rw c.in-Name.is at c.first_shown.ensures.within) (rw c.in-Name.is at c.first_shown.ensures.zero));
  shorter = λ more.
      (let some : 0 < length c.names.rest.now = search rules in
      shorter_more _ _ _ _ _ _ c.put_name-end.ensures.behind some c.names.invariant.shorter
      (rw c.in-Name.is at c.first_shown.ensures.zero) more);
}

pub returns-then-end-out-clause-list : goal.returns-then-end-out-clause-list
returns-then-end-out-clause-list c = search (rules, fits)

pub returns-else-end-out-clause-list : goal.returns-else-end-out-clause-list
returns-else-end-out-clause-list c = search (rules, too_long)
