use Rattle.std.proofs.Common.{◌+◌, ◌-◌, ◌%◌, ◌<◌, refl, sym, ap, ◌∙◌, arith, ℕ}
use Rattle.virtiofs_map.specs.NodeParts.{placed}
use Rattle.virtiofs_map.proofs.xattrmap.trie.reading.ChildStepLemmas.{child_there, other_slot, past_slots}
use Rattle.virtiofs_map.proofs.xattrmap.trie.reading.Rows.dense_child.Goals as goal

pub returns-then-behind-width_of : goal.returns-then-behind-width_of
returns-then-behind-width_of c = λ first labels nodes bytes node has readable row flat.
    (let low = c.low_byte_of.ensures (placed first labels node) row in
    let width = c.width_of.ensures (placed first labels node) row in
    past_slots c.args.byte readable ((c.args.byte + (256 - c.low_byte_of.result)) % 256) flat (omega arith)
    (ap (λ n. (c.args.byte + (256 - n)) % 256) low) (omega (arith, width, c.if-behind-width_of.true)))

pub returns-then-first_byte_of-byte : goal.returns-then-first_byte_of-byte
returns-then-first_byte_of-byte c = λ first labels nodes bytes node has readable row flat.
    (let behind : ℕ = (c.args.byte + (256 - c.low_byte_of.result)) % 256 in
    let width = c.width_of.ensures (placed first labels node) row in
    let below : behind < node.width = omega (arith, width, c.if-behind-width_of.false) in
    let there = child_there has c.base_of.result behind _ _ readable below
    (c.base_of.ensures.dense (placed first labels node) row flat) refl c.in_ok-child.ensures in
    let byte = sym (c.first_byte_of.ensures (placed first labels there.0) there.3) ∙ c.if-first_byte_of-byte.true in
    let low = c.low_byte_of.ensures (placed first labels node) row in
    let lowest = readable.placed flat (omega (arith, below)) in
    record {
      place = node.base + behind;
      child = there.0;
      leads = record {
        from = omega arith;
        below = omega (arith, below);
        here = there.1;
        first_byte = byte;
        real = λ none. omega (arith, below, lowest.high, lowest.low_byte, low, none);
      };
      is = there.3;
    })

pub returns-else-first_byte_of-byte : goal.returns-else-first_byte_of-byte
returns-else-first_byte_of-byte c = λ first labels nodes bytes node has readable row flat.
    (let low = c.low_byte_of.ensures (placed first labels node) row in
    let width = c.width_of.ensures (placed first labels node) row in
    let behind : ℕ = (c.args.byte + (256 - c.low_byte_of.result)) % 256 in
    let there = child_there has c.base_of.result behind _ _ readable (omega (arith, width, c.if-behind-width_of.false))
    (c.base_of.ensures.dense (placed first labels node) row flat) refl c.in_ok-child.ensures in
    other_slot c.args.byte readable behind flat (omega arith) (ap (λ n. (c.args.byte + (256 - n)) % 256) low) there.0
    there.1 (λ same. c.if-first_byte_of-byte.false (c.first_byte_of.ensures (placed first labels there.0) there.3 ∙ same)))
