use Rattle.std.proofs.Common.{ℕ, ◌≤◌, Some, None, IfSome, IsSomeAnd, inl, inr, Option, sym, ◌∙◌, arith}
use Rattle.std.proofs.lemmas.Bool.{false≢true}
use Rattle.virtiofs_acl.proofs.AclMergeLemmas.{MeetsClashes-more, HasClash-here}
use Rattle.virtiofs_acl.proofs.merges.least_clash.Goals.{then-clash, else-clash}
use Rattle.virtiofs_acl.proofs.merges.least_clash.Goals as goal

-- of two numbers of which one is the lesser, what is no less than the other is no less than it
lesser_kept : (least : Option ℕ) (k m : ℕ) → IfSome least (λ n. k ≤ n) → IsSomeAnd least (λ n. n ≤ m) → k ≤ m
lesser_kept None k m lesser below = absurd below
lesser_kept (Some n) k m lesser below = omega arith

pub loop-i-preserved : goal.loop-i-preserved
loop-i-preserved c =
    let in_order = c.requires.in_order in
    elim c.if-clash.branch [
      | then-clash w ↦
          let clashes = c.clash.ensures.0 w.if-clash.true in
          rw w.least-is (record {
            found = elim w.lesser.ensures.one [
              | inl here ↦ HasClash-here c.args.value.now c.args.placed.now c.loop-i.i w.lesser.result _ in_order
                  c.loop-i.auto.i c.loop-i-test.true clashes here
              | inr before ↦ (rw before at c.loop-i.invariant.found)
            ];
            least = MeetsClashes-more c.args.value.now c.args.placed.now c.loop-i.i _ c.loop-i.least
                (Some w.lesser.result) in_order c.loop-i.auto.i c.loop-i-test.true c.loop-i.invariant.least
                (λ m. lesser_kept c.loop-i.least w.lesser.result m w.lesser.ensures.least)
                (λ _. w.lesser.ensures.below);
          })
      | else-clash w ↦
          rw w.least-is (record {
            found = c.loop-i.invariant.found;
            least = MeetsClashes-more c.args.value.now c.args.placed.now c.loop-i.i _ c.loop-i.least c.loop-i.least
                in_order c.loop-i.auto.i c.loop-i-test.true c.loop-i.invariant.least (λ m below. below)
                (λ clashes. absurd (false≢true (sym w.if-clash.false ∙ c.clash.ensures.1 clashes)));
          })
    ]
