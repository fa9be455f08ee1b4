use Rattle.std.proofs.Common.{◌≡◌, ◌-◌, true, length, take, drop, ap, arith, rules}
use Rattle.virtiofs_map.proofs.xattrmap.trie.compare.SameBytesLemmas.{same_to_end, take_on}
use Rattle.virtiofs_map.proofs.xattrmap.trie.compare.are_long_same.Goals as goal

pub loop-at-preserved : goal.loop-at-preserved
loop-at-preserved c =
    let yes : c.are_same_there.result ≡ true = search rules in
    record {
      within = omega (arith, c.loop-at-test.true);
      same = take_on c.loop-at.at 16 c.args.one.now c.args.other.now c.loop-at.invariant.same (c.are_same_there.ensures.0 yes);
    }

pub returns : goal.returns
returns c = (
  λ yes. same_to_end 16 c.loop-at.at c.args.one.now c.args.other.now c.requires.lengths c.requires.long
      (omega (arith, c.loop-at-test.false)) c.loop-at.invariant.same (c.are_same_there-2.ensures.0 yes),
  λ same. c.are_same_there-2.ensures.1 (ap (λ l. take 16 (drop (length c.args.one.now - 16) l)) same),
)
