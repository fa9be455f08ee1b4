use Rattle.std.proofs.Common.{◌+◌, ◌-◌, ◌≤◌, ◌≡◌, ◌++◌, ◌∷◌, [], ℕ, true, false, length, refl, replicate, sym, subst, ap, ◌∙◌, arith}
use Rattle.std.proofs.Common.{append-nil, length-append, take_all, vec_len}
use Rattle.std.proofs.lemmas.Bool.{true≢false}
use Rattle.virtiofs_map.specs.TrieBuildParts.{AreAdded, IsLeast, IsUpto, hole, next_of}
use Rattle.virtiofs_map.proofs.xattrmap.trie.build.ChildrenLemmas.{AreFound, found_all, found_more, found_none, is_group}
use Rattle.virtiofs_map.proofs.xattrmap.trie.build.FirstBytesLemmas.{first_bytes_apart}
use Rattle.virtiofs_map.proofs.xattrmap.trie.build.RangePathLemmas.{row}
use Rattle.virtiofs_map.proofs.xattrmap.trie.build.add_children.Goals as goal
use Rattle.virtiofs_map.proofs.xattrmap.trie.build.add_children.Goals.{then-not-is_sparse+in_ok-resize}
use Rattle.virtiofs_map.proofs.xattrmap.trie.build.add_children.Goals.{else-not-is_sparse}

pub loop-low-init : goal.loop-low-init
loop-low-init g c =
    let req = c.requires in
    record {
      from = omega arith;
      upto = omega (arith, req.on.some);
      found = found_none req.ready req.range req.on c.args.ranges.now.items c.byte_of-lowest.result c.args.is_sparse
          c.byte_of-lowest.ensures;
    }

pub group_end-high-requires-clause-rising : goal.group_end-high-requires-clause-rising
group_end-high-requires-clause-rising g c = λ i j from le upto.
    row c.requires.ready c.requires.range i j (omega (arith, c.loop-low.invariant.from, c.requires.on.low)) le upto

pub child-requires-clause-group : goal.child-requires-clause-group
child-requires-clause-group g c =
    let req = c.requires in
    let inv = c.loop-low.invariant in
    let found = inv.found in
    let group = c.group_end-high.ensures in
    is_group req.ready req.range c.loop-low.low c.group_end-high.result (omega (arith, req.on.low, inv.from)) group.more
    group.upto group.same group.other
    (first_bytes_apart req.ready req.range req.on c.byte_of-lowest.result c.loop-low.low found.upto found.bytes
    c.loop-low-test.true)

pub loop-low-preserved : goal.loop-low-preserved
loop-low-preserved g c =
    let req = c.requires in
    let inv = c.loop-low.invariant in
    let mid = c.loop-low.ranges.items in
    let found = inv.found in
    let kid = c.child.result in
    let says = c.child.ensures in
    let next : ℕ = next_of c.args.patterns.now c.args.range c.loop-low.low in
    let above = found.bytes.after c.loop-low.low (omega arith) c.loop-low-test.true in
    let more =
    λ (holes : ℕ) (filled : c.if-not-is_sparse.ranges.items ≡ mid ++ replicate holes hole)
    (none : c.args.is_sparse ≡ true → holes ≡ 0)
    (far : c.args.is_sparse ≡ false → length mid + holes + c.byte_of-lowest.result ≡ length c.args.ranges.now.items + next).
    subst (λ n. AreFound c.args.patterns.now c.args.range c.args.from c.byte_of-lowest.result c.args.is_sparse n
    c.args.ranges.now.items c.push.new.self.items) says.high
    (found_more req.ready req.range req.on mid c.push.new.self.items kid holes
    (subst (λ n. AreFound c.args.patterns.now c.args.range c.args.from c.byte_of-lowest.result c.args.is_sparse n
    c.args.ranges.now.items mid) (sym says.low) found)
    (subst (IsLeast c.args.patterns.now (IsUpto c.args.patterns.now c.args.range)) (sym says.answer) req.least) says.kid
    (omega (arith, inv.from, says.low)) (c.in_ok-push.ensures.items ∙ ap (λ l. l ++ kid ∷ []) filled) none
    (λ dense. omega (
      arith,
      far dense,
      says.kid.first_byte,
      ap (next_of c.args.patterns.now c.args.range) says.low,
    ))) in
    record {
      from = omega (arith, c.group_end-high.ensures);
      upto = c.group_end-high.ensures.upto;
      found = elim c.if-not-is_sparse.branch [
        | then-not-is_sparse+in_ok-resize w ↦
            (let n : ℕ = c.len-base.result + w.from.result in
            let size = ap length found.are ∙ length-append c.args.ranges.now.items found.kids in
            let so_far = found.dense w.if-not-is_sparse.true in
            let long : length mid ≤ n =
            omega (arith, size, so_far, above, c.len-base.ensures, w.from.ensures, w.byte_of.ensures) in
            more (n - vec_len c.loop-low.ranges)
            (ap (λ v. v.items) w.ranges-is ∙ w.in_ok-resize.ensures.items
            ∙ ap (λ l. l ++ replicate (n - vec_len c.loop-low.ranges) hole) (take_all n mid long))
            (λ sparse. absurd (true≢false (sym sparse ∙ w.if-not-is_sparse.true)))
            (λ dense. omega (arith, long, size, so_far, above, c.len-base.ensures, w.from.ensures, w.byte_of.ensures)))
        | else-not-is_sparse w ↦ more 0 (ap (λ v. v.items) w.ranges-is ∙ sym (append-nil mid)) (λ _. refl)
            (λ dense. absurd (true≢false (sym w.if-not-is_sparse.false ∙ dense)))
      ];
    }

pub returns : goal.returns
returns g c =
    let req = c.requires in
    subst (λ n. AreAdded c.args.patterns.now c.args.ranges.now.items c.loop-low.ranges.items c.args.range n
    c.args.is_sparse) c.byte_of-lowest.ensures
    (found_all req.ready req.range req.on c.loop-low.low c.loop-low.ranges.items c.loop-low.invariant.found
    c.loop-low-test.false c.loop-low.invariant.upto req.sparse)
