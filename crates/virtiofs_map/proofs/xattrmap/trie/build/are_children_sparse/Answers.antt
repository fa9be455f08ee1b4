use Rattle.std.proofs.Common.{◌≡◌, ◌+◌, ◌-◌, ◌*◌, ltb, sym, ap, subst, ◌∙◌, arith, length}
use Rattle.std.proofs.lemmas.List.{length_push}
use Rattle.virtiofs_map.specs.TrieBuildParts.{next_of}
use Rattle.virtiofs_map.proofs.xattrmap.trie.build.RangePathLemmas.{row}
use Rattle.virtiofs_map.proofs.xattrmap.trie.build.FirstBytesLemmas.{bytes_more, first_bytes, first_bytes_more}
use Rattle.virtiofs_map.proofs.xattrmap.trie.build.FirstBytesLemmas.{HaveFirstBytes, first_bytes_none, first_bytes_sparse, no_first_bytes}
use Rattle.virtiofs_map.proofs.xattrmap.trie.build.are_children_sparse.Goals as goal

pub loop-low-init : goal.loop-low-init
loop-low-init c =
    let req = c.requires in
    record {
      from = omega arith;
      upto = omega (arith, req.on.some);
      groups = subst (λ n. HaveFirstBytes c.args.patterns.now c.args.range c.args.from n c.args.from 0)
          (sym c.byte_of-lowest.ensures) record {
            upto = next_of c.args.patterns.now c.args.range c.args.from;
            are = first_bytes_none req.ready req.range req.on;
            counted = ap length (sym (no_first_bytes req.ready req.range req.on));
          };
    }

pub group_end-low-requires-clause-rising : goal.group_end-low-requires-clause-rising
group_end-low-requires-clause-rising c = λ i j from le upto.
    row c.requires.ready c.requires.range i j (omega (arith, c.loop-low.invariant.from, c.requires.on.low)) le upto

pub loop-low-preserved : goal.loop-low-preserved
loop-low-preserved c =
    let req = c.requires in
    let inv = c.loop-low.invariant in
    let groups = inv.groups in
    let group = c.group_end-low.ensures in
    let low = c.loop-low.low in
    let end = c.group_end-low.result in
    let byte = next_of c.args.patterns.now c.args.range low in
    let more = bytes_more req.ready req.range req.on c.byte_of-lowest.result low groups.upto groups.are end inv.from
    group.more group.upto group.same group.other in
    record {
      from = omega (arith, group);
      upto = group.upto;
      groups = record {
        upto = byte + 1;
        are = first_bytes_more req.ready req.range req.on c.byte_of-lowest.result low groups.upto groups.are end inv.from
            group.more group.upto group.same group.other;
        counted = omega (
          arith,
          ap length more,
          groups.counted,
          length_push (first_bytes c.args.patterns.now c.args.range groups.upto) byte,
        );
      };
    }

pub returns : goal.returns
returns c =
    let req = c.requires in
    let inv = c.loop-low.invariant in
    let low = row req.ready req.range c.args.from (c.args.range.high - 1) req.on.low (omega (arith, req.on.some))
    (omega (arith, req.on.some)) in
    let size : c.from-span.result + 1 ≡ c.byte_of-highest.result + 1 - c.byte_of-lowest.result =
    omega (arith, low, c.byte_of-highest.ensures, c.byte_of-lowest.ensures, c.max.ensures, c.from-span.ensures) in
    ap (ltb (2 * c.loop-low.count + 4)) size
    ∙ first_bytes_sparse req.ready req.range req.on c.byte_of-lowest.result c.loop-low.low inv.groups.upto
    inv.groups.are c.loop-low-test.false c.byte_of-highest.result c.loop-low.count inv.upto c.byte_of-highest.ensures
    inv.groups.counted
