use Rattle.std.proofs.Common.{arith, lit<}
use Rattle.std.proofs.lemmas.Iterator.Consumers.{YieldsList-at, YieldsList-end}
use Rattle.std.proofs.lemmas.Iterator.Splits.{YieldsList-from_str_split}
use Rattle.std.proofs.lemmas.List.{map-append}
use Rattle.std.proofs.lemmas.List.Folds.{find-append}
use Rattle.virtiofs_options.proofs.UnknownLemmas.{first-more}
use Rattle.virtiofs_options.proofs.unknown.older_fault.Goals as goal

pub loop-text-preserved-then-is_none : goal.loop-text-preserved-then-is_none
loop-text-preserved-then-is_none c = grind (arith, first-more)

pub loop-text-preserved : goal.loop-text-preserved
loop-text-preserved c = grind (arith, find-append, map-append)

pub returns : goal.returns
returns c =
    let seen = YieldsList-end
    (YieldsList-at c.into_iter-text-iterator.ensures.into_iter_gives
    (YieldsList-from_str_split 44 c.args.value.now (lit< tt) c.split-text-items.ensures.text
    c.split-text-items.ensures.has_more c.split-text-items.ensures.pattern))
    c.loop-text.yielded _ c.loop-text.yielded_by _ _ c.in-None.is c.next.ensures.steps in
    rw (← seen.0) c.loop-text.invariant
