use Rattle.std.proofs.Common.{append_assoc, arith, lit<}
use Rattle.std.proofs.lemmas.Iterator.Consumers.{YieldsList-at, YieldsList-end}
use Rattle.std.proofs.lemmas.Iterator.Splits.{YieldsList-from_str_split}
use Rattle.std.proofs.lemmas.List.{map-append}
use Rattle.virtiofs_options.proofs.older.push_older.Goals as goal

pub loop-text-preserved : goal.loop-text-preserved
loop-text-preserved g c = grind (arith, append_assoc, map-append)

pub returns : goal.returns
returns g c =
    let seen = YieldsList-end
    (YieldsList-at c.into_iter-text-iterator.ensures.into_iter_gives
    (YieldsList-from_str_split 44 c.args.texts.now (lit< tt) c.split-text-items.ensures.text
    c.split-text-items.ensures.has_more c.split-text-items.ensures.pattern))
    c.loop-text.yielded _ c.loop-text.yielded_by _ _ c.in-None.is c.next.ensures.steps in
    rw (← seen.0) c.loop-text.invariant
