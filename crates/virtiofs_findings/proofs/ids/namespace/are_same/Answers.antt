use Rattle.std.proofs.Common.{arith}
use Rattle.std.proofs.lemmas.Bool.{true≢false}
use Rattle.virtiofs_findings.proofs.NamespaceLemmas.{agree_all, same_around}
use Rattle.virtiofs_findings.proofs.ListLemmas.{decides_not}
use Rattle.virtiofs_findings.proofs.ids.namespace.are_same.Goals as goal

pub returns-then-not-agree_around_all : goal.returns-then-not-agree_around_all
returns-then-not-agree_around_all c =
    grind (arith, true≢false, decides_not, same_around, c.agree_around_all.ensures, c.if-not-agree_around_all.true)

pub returns : goal.returns
returns c = (
  λ is. (
    omega (arith, c.if-written-gt-MOST_RANGES.false),
    agree_all c.args.shown.now c.args.written.now (c.agree_around_all.ensures.0 c.if-not-agree_around_all.false)
        (c.agree_around_all-2.ensures.0 is),
  ),
  λ same. c.agree_around_all-2.ensures.1 (same_around c.args.shown.now c.args.written.now c.args.written.now same),
)
