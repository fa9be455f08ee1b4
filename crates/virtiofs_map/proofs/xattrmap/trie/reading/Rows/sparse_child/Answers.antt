use Rattle.std.proofs.Common.{◌≡◌, ◌+◌, ◌%◌, ◌<◌, inl, inr, Some, refl, sym, ap, ◌∙◌, arith, slice_get}
use Rattle.std.proofs.lemmas.Bool.{cases_lt}
use Rattle.virtiofs_map.specs.NodeParts.{placed}
use Rattle.virtiofs_map.specs.declared.xattrmap.trie.node.Node.{Node}
use Rattle.virtiofs_map.proofs.xattrmap.trie.reading.ChildStepLemmas.{child_there, nowhere}
use Rattle.virtiofs_map.proofs.xattrmap.trie.reading.Rows.sparse_child.Goals as goal

pub returns-then-first_byte_of-byte : goal.returns-then-first_byte_of-byte
returns-then-first_byte_of-byte c = λ first labels nodes bytes node has readable row.
    (let width = c.width_of-width.ensures (placed first labels node) row in
    let below : c.loop-behind.behind < node.width = omega (arith, width, c.loop-behind-test.true) in
    let there =
    child_there has (c.base_of.result % 140737488355328) c.loop-behind.behind _ _ readable below
    (c.base_of.ensures.sparse (placed first labels node) row) refl c.in_ok-child.ensures in
    record {
      place = node.base + c.loop-behind.behind;
      child = there.0;
      leads = record {
        from = omega arith;
        below = omega (arith, below);
        here = there.1;
        first_byte = sym (c.first_byte_of.ensures (placed first labels there.0) there.3) ∙ c.if-first_byte_of-byte.true;
        real = c.if-byte-eq0.false;
      };
      is = there.3;
    })

pub loop-behind-preserved : goal.loop-behind-preserved
loop-behind-preserved c = λ first labels nodes bytes node has readable row k child less here first_byte.
    (let width = c.width_of-width.ensures (placed first labels node) row in
    let below : c.loop-behind.behind < node.width = omega (arith, width, c.loop-behind-test.true) in
    let there =
    child_there has (c.base_of.result % 140737488355328) c.loop-behind.behind _ _ readable below
    (c.base_of.ensures.sparse (placed first labels node) row) refl c.in_ok-child.ensures in
    elim (cases_lt k c.loop-behind.behind) [
      | inl low ↦ c.loop-behind.invariant first labels nodes bytes node has readable row k child low here first_byte
      | inr high ↦
          (let last : node.base + k ≡ node.base + c.loop-behind.behind = omega arith in
          let same : Some there.0 ≡ Some child = sym there.1 ∙ sym (ap (slice_get nodes) last) ∙ here in
          let first_bytes : there.0.first_byte ≡ child.first_byte =
          ap (λ (b : Node). b.first_byte) (let e : there.0 ≡ child = cc in e) in
          absurd (c.if-first_byte_of-byte.false (c.first_byte_of.ensures (placed first labels there.0) there.3 ∙ first_bytes ∙ first_byte)))
    ])

pub returns : goal.returns
returns c = λ first labels nodes bytes node has readable row.
    (nowhere c.args.byte readable c.loop-behind.behind
    (omega (arith, c.width_of-width.ensures (placed first labels node) row, c.loop-behind-test.false))
    (c.loop-behind.invariant first labels nodes bytes node has readable row))
