use Rattle.std.proofs.Common.{◌≡◌, ◌<◌, length, refl, arith, rules}
use Rattle.virtiofs_map.proofs.ServerListLemmas.{short_more, shorter_more}
use Rattle.virtiofs_map.proofs.xattrmap.image.list.NamesListLemmas.{IsWhole, listed_all, listed_first, listed_hidden}
use Rattle.virtiofs_map.proofs.xattrmap.image.list.NamesListLemmas.{listed_no_name, listed_shown, listed_undecided}
use Rattle.virtiofs_map.proofs.xattrmap.image.list.NamesListLemmas.{whole_fits, whole_too_long}
use Rattle.virtiofs_map.proofs.xattrmap.image.list.write_list.Goals as goal
use Rattle.virtiofs_map.proofs.xattrmap.image.list.write_list.Goals.{then-end-eq0, else-end-eq0}

pub names-init : goal.names-init
names-init c = record {
  listed = λ map is. listed_first map c.args.list.now c.args.out.now;
  same = refl;
  short = omega arith;
  shorter = λ _. omega arith;
}

pub names-preserved-in-Hidden : goal.names-preserved-in-Hidden
names-preserved-in-Hidden c = record {
  listed = λ map is.
      listed_hidden map c.args.list.now c.names.rest.now c.first_seen.result.1.now c.names.end c.args.out.now _
      (c.names.invariant.listed map is) (rw c.in-Hidden.is at c.first_seen.ensures.first map is);
  same = c.names.invariant.same;
  short = omega (arith, c.names.invariant.short, c.first_seen.ensures.within);
  shorter =
      λ more. omega (
        arith,
        c.names.invariant.shorter,
        c.names.invariant.short,
        c.first_seen.ensures.within,
        c.first_seen.ensures.zero more,
      );
}

pub names-preserved : goal.names-preserved
names-preserved c = record {
  listed = λ map is.
      listed_shown map c.args.list.now c.names.rest.now c.first_seen.result.1.now c.names.end c.args.out.now _
      (c.names.invariant.listed map is) c.in-Listed.shown c.put_name-end.result _
      (rw c.in-Listed.is at c.first_seen.ensures.first map is) c.put_name-end.ensures.behind
      c.put_name-end.ensures.holds;
  same = omega (arith, c.put_name-end.ensures.same, c.names.invariant.same);
  short =
      (let some : 0 < length c.names.rest.now = search rules in
      short_more _ _ _ _ _ _ c.put_name-end.ensures.behind some c.names.invariant.shorter
      (rw c.in-Listed.is at c.first_seen.ensures.within) (rw c.in-Listed.is at c.first_seen.ensures.zero));
  shorter = λ more.
      (let some : 0 < length c.names.rest.now = search rules in
      shorter_more _ _ _ _ _ _ c.put_name-end.ensures.behind some c.names.invariant.shorter
      (rw c.in-Listed.is at c.first_seen.ensures.zero) more);
}

pub returns-in-Undecided-clause-list : goal.returns-in-Undecided-clause-list
returns-in-Undecided-clause-list c = λ map image.
    let is = c.in-Some.ensures.map map image in
    listed_undecided map c.args.list.now c.names.rest.now c.first_seen.result.1.now c.names.end c.args.out.now _
    (c.names.invariant.listed map is) (rw c.in-Undecided.is at c.first_seen.ensures.first map is)

pub returns-then-end-out-clause-list : goal.returns-then-end-out-clause-list
returns-then-end-out-clause-list c = λ map image.
    let old = c.args.out.now in
    let so_far = c.names.invariant.listed map (c.in-Some.ensures.map map image) in
    let none : length c.names.rest.now ≡ 0 = search rules in
    let whole : IsWhole map c.args.list.now c.if-end-eq0.end old c.if-end-eq0.out =
    elim c.if-end-eq0.branch [
      | then-end-eq0 w ↦ rw (w.out-is, w.end-is)
          (listed_no_name map c.args.list.now c.names.rest.now c.names.end old c.names.out so_far none _ _
          w.if-end-eq0.true w.put_name-end-then-end-eq0.ensures.behind w.put_name-end-then-end-eq0.ensures.holds)
      | else-end-eq0 w ↦ rw (w.out-is, w.end-is)
          (listed_all map c.args.list.now c.names.rest.now c.names.end old c.names.out so_far none w.if-end-eq0.false)
    ] in
    whole_fits map c.args.list.now old c.if-end-eq0.out c.if-end-eq0.end whole c.if-end-out.true

pub returns-else-end-out-clause-list : goal.returns-else-end-out-clause-list
returns-else-end-out-clause-list c = λ map image.
    let old = c.args.out.now in
    let so_far = c.names.invariant.listed map (c.in-Some.ensures.map map image) in
    let none : length c.names.rest.now ≡ 0 = search rules in
    let whole : IsWhole map c.args.list.now c.if-end-eq0.end old c.if-end-eq0.out =
    elim c.if-end-eq0.branch [
      | then-end-eq0 w ↦ rw (w.out-is, w.end-is)
          (listed_no_name map c.args.list.now c.names.rest.now c.names.end old c.names.out so_far none _ _
          w.if-end-eq0.true w.put_name-end-then-end-eq0.ensures.behind w.put_name-end-then-end-eq0.ensures.holds)
      | else-end-eq0 w ↦ rw (w.out-is, w.end-is)
          (listed_all map c.args.list.now c.names.rest.now c.names.end old c.names.out so_far none w.if-end-eq0.false)
    ] in
    whole_too_long map c.args.list.now old c.if-end-eq0.out c.if-end-eq0.end whole c.if-end-out.false
