use Rattle.virtiofs_id_audit.proofs.cuts.WithoutLemmas.{CutTo}
use Rattle.virtiofs_id_audit.proofs.cuts.without.Given as goal

-- what is left of the span below next
abbrev pub invariant-loop-cut : goal.invariant-loop-cut
invariant-loop-cut g l = CutTo l.fn.whole l.cuts l.cut-index l.next l.kept.items
