use Rattle.std.proofs.Common.{arith, lit<}
use Rattle.std.proofs.lemmas.Iterator.Consumers.{YieldsList-at, YieldsList-end}
use Rattle.std.proofs.lemmas.Iterator.Splits.{YieldsList-from_str_split}
use Rattle.virtiofs_options.proofs.UnknownLemmas.{words-more}
use Rattle.virtiofs_options.proofs.unknown.push_older.Goals as goal

pub loop-word-preserved : goal.loop-word-preserved
loop-word-preserved c = grind (arith, words-more)

pub returns : goal.returns
returns c =
    let seen = YieldsList-end
    (YieldsList-at c.into_iter-word-iterator.ensures.into_iter_gives
    (YieldsList-from_str_split 44 c.args.value.now (lit< tt) c.split-word-items.ensures.text
    c.split-word-items.ensures.has_more c.split-word-items.ensures.pattern))
    c.loop-word.yielded _ c.loop-word.yielded_by _ _ c.in-None.is c.next.ensures.steps in
    rw (← seen.0) c.loop-word.invariant
