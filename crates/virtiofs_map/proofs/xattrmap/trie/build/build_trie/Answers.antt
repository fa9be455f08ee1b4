use Rattle.std.proofs.Common.{◌≡◌, [], ◌∷◌, ◌++◌, ◌<◌, length, length-append, refl, sym, ap, subst, ◌∙◌, arith, sum_by, take, take_all}
use Rattle.std.proofs.lemmas.List.{get_or_read, length_push}
use Rattle.std.proofs.lemmas.List.Sums.{sum_by-take-le}
use Rattle.virtiofs_map.specs.PatternTrie.{nodes_in_all}
use Rattle.virtiofs_map.specs.TrieBuildParts.{AreBuilt, IsRangeOrHole, below, hole, range_at, texts_of}
use Rattle.virtiofs_map.specs.NodeParts.{patterns_on}
use Rattle.virtiofs_map.proofs.xattrmap.trie.AppendedRowLemmas.{rows_more, rows_none}
use Rattle.virtiofs_map.proofs.xattrmap.trie.SameTextsLemmas.{nodes_same}
use Rattle.virtiofs_map.proofs.xattrmap.trie.build.BuiltSoFarLemmas.{built_more, root, root_built, root_total}
use Rattle.virtiofs_map.proofs.xattrmap.trie.build.BuiltSoFarLemmas.{total_more}
use Rattle.virtiofs_map.proofs.xattrmap.trie.build.BuiltTrieLemmas.{are_bounded, is_trie}
use Rattle.virtiofs_map.proofs.xattrmap.trie.build.build_trie.Goals as goal

pub loop-at-init : goal.loop-at-init
loop-at-init g c =
    let patterns = c.args.patterns.now in
    let items : c.push.new.self.items ≡ root (length patterns) ∷ [] = c.in_ok-push.ensures.items
    ∙ ap (λ ranges. ranges ++ root (length patterns) ∷ []) c.clear-2.ensures.items in
    record {
      within = omega arith;
      made = record {
        nodes = [];
        counted = refl;
        built = subst (λ ranges. AreBuilt patterns ranges []) (sym items) (root_built patterns);
        total = rw items (root_total patterns);
        rows_of = rows_none _ c.args.first c.clear.ensures.items;
      };
    }

pub loop-at-smaller : goal.loop-at-smaller
loop-at-smaller g c =
    let ranges = c.loop-at.ranges.items in
    omega (
      arith,
      c.loop-at-test.true,
      c.loop-at.invariant.made.total,
      sum_by-take-le (below c.args.patterns.now) ranges c.loop-at.at,
    )

pub node_of-requires-clause-place : goal.node_of-requires-clause-place
node_of-requires-clause-place g c =
    subst (IsRangeOrHole c.args.patterns.now) (sym c.index-range.ensures)
    (c.loop-at.invariant.made.built.places c.loop-at.at _ (omega (arith, c.loop-at-test.true)))

pub loop-at-preserved : goal.loop-at-preserved
loop-at-preserved g c =
    let made = c.loop-at.invariant.made in
    let expanded = c.in_ok-node.ensures in
    let range = c.index-range.result.now in
    let patterns = c.args.patterns.now in
    let old = c.loop-at.ranges.items in
    let new = c.node_of.new.ranges.items in
    let node = c.in_ok-node.node in
    let inside : c.loop-at.at < length old = omega (arith, c.loop-at-test.true) in
    let here : range ≡ range_at old c.loop-at.at =
    get_or_read old c.loop-at.at range inside c.index-range.ensures hole in
    record {
      within = omega (arith, c.loop-at-test.true, ap length expanded.are ∙ length-append old expanded.kids);
      made = record {
        nodes = made.nodes ++ node ∷ [];
        counted = omega (arith, made.counted, length_push made.nodes node);
        built = built_more patterns old new range node c.loop-at.at inside here expanded made.nodes made.counted made.built;
        total = total_more patterns old new range node c.loop-at.at inside here expanded (nodes_in_all (texts_of patterns)) made.total;
        rows_of =
            rows_more c.loop-at.rows.items c.push_row.new.rows.items c.args.first made.nodes node
            c.placed.result made.rows_of c.placed.ensures.placed c.placed.ensures.bytes.0 c.in_ok-push_row.ensures.row
            c.in_ok-push_row.ensures.long;
      };
    }

pub returns : goal.returns
returns g c = λ side rules of_rules few.
    (let made = c.loop-at.invariant.made in
    let patterns = c.args.patterns.now in
    let bytes = c.args.bytes.now in
    let ranges = c.loop-at.ranges.items in
    let full : length made.nodes ≡ length ranges =
    omega (arith, c.loop-at-test.false, made.counted, made.built.counted) in
    let whole = ap (sum_by (below patterns)) (take_all c.loop-at.at ranges (omega (arith, c.loop-at-test.false))) in
    record {
      nodes = made.nodes;
      trie = record {
        trie = is_trie side rules bytes patterns of_rules few c.requires ranges made.nodes made.built full;
        bounded = are_bounded side rules bytes patterns of_rules few c.requires ranges made.nodes made.built full;
        counted = omega (arith, full, made.total, whole, nodes_same (patterns_on side (take (length rules) rules)) (texts_of patterns) of_rules.texts, ap (λ l. nodes_in_all (patterns_on side l)) (take_all (length rules) rules (omega arith)));
        few = few;
      };
      rows_of = made.rows_of;
    })
