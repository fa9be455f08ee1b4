use Rattle.std.proofs.Common.{sym, ◌∙◌}
use Rattle.virtiofs_map.proofs.SortedLemmas.{entries-some, entries-none}
use Rattle.virtiofs_map.proofs.soft_idmap.sorted.entries.Goals as goal

pub loop-spec-preserved-in_default : goal.loop-spec-preserved-in_default
loop-spec-preserved-in_default g c =
    entries-none c.args.specs.now c.args.direction c.loop-spec.spec-index _ _ c.loop-spec-test.true
    c.loop-spec.invariant (sym c.acting_entry.ensures ∙ c.in_default.is)

pub loop-spec-preserved : goal.loop-spec-preserved
loop-spec-preserved g c =
    rw c.in_ok-push.ensures.items
    (entries-some c.args.specs.now c.args.direction c.loop-spec.spec-index _ _ _ c.loop-spec-test.true
    c.loop-spec.invariant (sym c.acting_entry.ensures ∙ c.in-Some.is))
