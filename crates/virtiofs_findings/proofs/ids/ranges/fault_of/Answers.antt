use Rattle.std.proofs.Common.{arith, ◌≤◌, subst, sym}
use Rattle.virtiofs_findings.proofs.ListLemmas.{decides_not}
use Rattle.virtiofs_findings.proofs.RangeLemmas.{none_wrong}
use Rattle.virtiofs_findings.proofs.ids.ranges.fault_of.Goals as goal

pub returns : goal.returns
returns g c =
    none_wrong _ _ c.args.before.now c.args.range.now c.if-range-eq0.false
    (decides_not _ c.is_beyond.ensures c.if-is_beyond.false)
    (λ many. omega (arith, many, c.if-before-ge-MOST_RANGES.false))
    (λ long. let too_long : 4096 ≤ c.args.written = subst (λ n. 4096 ≤ n) (sym c.requires) long in
    omega (arith, too_long, c.if-written-ge-PAGE.false))
    (decides_not _ c.is_refused.ensures c.if-is_refused.false) c.meeting.ensures
