use Rattle.std.proofs.Common.{arith, refl}
use Rattle.virtiofs_mapaudit.proofs.EveryoneLemmas.{started_more}
use Rattle.virtiofs_mapaudit.proofs.guests.started.Goals as goal

pub loop-options-preserved : goal.loop-options-preserved
loop-options-preserved c =
    rw c.in_ok-push.ensures.items (started_more c.args.starters.now 0 c.loop-options.yielded c.loop-options.guests.items
    c.in-Some.options _ c.len.result c.loop-options.invariant (omega (arith, c.len.ensures)) (record {
      has = refl;
      runner = c.starter_at-runner.ensures;
    }))
