use Rattle.std.proofs.Common.{◌-◌, ℕ, length, sym, subst, arith}
use Rattle.virtiofs_map.specs.NodeParts.{Passes, placed}
use Rattle.virtiofs_map.proofs.xattrmap.trie.walk.StandingLemmas.{stands_at_root, stands_counted, stands_on, stands_passed, stands_readable}
use Rattle.virtiofs_map.proofs.xattrmap.trie.walk.walk.Goals as goal

pub loop-child-init : goal.loop-child-init
loop-child-init c = record {
  stands = λ side rules end labels bytes inside.
      (let root =
      c.root-row.ensures.root inside.first labels inside.nodes inside.begins_at inside.rows_of inside.trie.root in (
        root.node,
        root.is,
        stands_at_root inside.trie root.node c.root-row.new.steps root.here c.root-row.ensures.counted,
      ));
  within = omega arith;
}

pub loop-child-preserved : goal.loop-child-preserved
loop-child-preserved c = record {
  stands = λ side rules end labels bytes inside.
      (let (node, is, stands) = c.loop-child.invariant.stands side rules end labels bytes inside in
      let step =
      c.in-Some.ensures.step inside.first labels inside.nodes bytes node inside.rows_of inside.texts
      (stands_readable inside.trie stands) is in (step.child, step.is, stands_on inside.trie stands step));
  within = omega (arith, c.in-Some.ensures.shorter);
}

pub returns-clause-passes : goal.returns-clause-passes
returns-clause-passes c = λ side rules end labels bytes inside.
    (let (node, is, stands) = c.loop-child.invariant.stands side rules end labels bytes inside in
    subst (λ (answer : ℕ). Passes side rules c.args.name.now answer
    (length c.args.name.now - length c.loop-child.rest.now))
    (sym (c.answer_of.ensures (placed inside.first labels node) is))
    (stands_passed inside.trie stands
    (c.in_default.ensures.step inside.first labels inside.nodes bytes node inside.rows_of inside.texts
    (stands_readable inside.trie stands) is)))

pub returns-clause-counts : goal.returns-clause-counts
returns-clause-counts c = λ side rules end labels bytes inside whole.
    (let (node, is, stands) = c.loop-child.invariant.stands side rules end labels bytes inside in
    stands_counted inside.trie stands
    (c.in_default.ensures.step inside.first labels inside.nodes bytes node inside.rows_of inside.texts
    (stands_readable inside.trie stands) is) whole)
