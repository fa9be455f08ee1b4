use Rattle.std.proofs.Common.{◌∙◌, ◌+◌, ◌/◌, inl, refl, arith}
use Rattle.virtiofs_map.proofs.WordLemmas.{HasDigitsFor-less, Searches-turn}
use Rattle.virtiofs_map.proofs.soft_idmap.lookup.last_from.Goals as goal

pub loop-size-preserved : goal.loop-size-preserved
loop-size-preserved c = record {
  some = omega arith;
  within = omega arith;
  digits =
      HasDigitsFor-less _ _ _ _ _ c.loop-size.invariant.digits c.read-range.ensures.counted (omega arith) (omega arith);
  begun = inl (omega arith);
  searched =
      let half = c.loop-size.size / 2 in
      let middle = c.index.result + half in
      Searches-turn c.args.ranges.now c.args.n c.loop-size.last.index c.loop-size.size half middle
      c.or-last.result.index c.loop-size.invariant.searched c.loop-size.invariant.within (omega arith) refl
      (omega (arith, c.index.ensures))
      (λ begins. c.or-last.ensures.begins (rw c.read-range.ensures.first begins) ∙ c.read-range.ensures.index)
      (λ above. c.or-last.ensures.above (rw c.read-range.ensures.first above));
}
