use Rattle.std.proofs.Common.{◌+◌, arith}
use Rattle.virtiofs_id_audit.proofs.cuts.WithoutLemmas.{CutTo-start, CutTo-more, CutTo-end}
use Rattle.virtiofs_id_audit.proofs.cuts.without.Goals as goal

pub loop-cut-init : goal.loop-cut-init
loop-cut-init g c = rw (c.new-kept.ensures.items, c.from-next.ensures) (CutTo-start c.args.whole c.args.cuts.now)

pub loop-cut-preserved : goal.loop-cut-preserved
loop-cut-preserved g c =
    CutTo-more _ _ _ _ _ _ _ (record { first = 0; last = 0 }) c.loop-cut.invariant c.requires.firsts
    c.in_ok-push_between.ensures.hold _ c.requires.some c.loop-cut-test.true (omega arith) (omega arith)
    (c.in_ok-push_between.ensures.runs c.loop-cut.invariant.runs _ (omega arith) (omega arith))

pub returns-clause-runs : goal.returns-clause-runs
returns-clause-runs g c =
    (c.in_ok-push_between-2.ensures.runs c.loop-cut.invariant.runs (c.loop-cut.next + (c.args.whole.last + 2))
    (omega arith) (omega arith)).runs

pub returns-clause-hold : goal.returns-clause-hold
returns-clause-hold g c =
    CutTo-end _ _ _ _ _ _ _ (record { first = 0; last = 0 }) c.loop-cut.invariant c.requires.firsts
    c.in_ok-push_between-2.ensures.hold c.loop-cut-test.false (omega arith)
