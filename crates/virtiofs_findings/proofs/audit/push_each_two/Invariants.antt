-- what is found with the guests so far was added, and of the next one with those before it so far
use Rattle.std.proofs.Common.{◌+◌, take}
use Rattle.virtiofs_findings.specs.Findings.{Each}
use Rattle.virtiofs_findings.specs.Lists.{Adds}
use Rattle.virtiofs_findings.specs.PairFindings.{FindsPair}
use Rattle.virtiofs_findings.specs.Report.{FindsWithEarlier}
use Rattle.virtiofs_findings.proofs.audit.push_each_two.Given as goal

abbrev pub invariant-loop-place : goal.invariant-loop-place
invariant-loop-place g l =
    Adds (Each (FindsWithEarlier l.sets) 1 (take l.place l.sets)) l.initial.found.items l.found.items

abbrev pub invariant-loop-before : goal.invariant-loop-before
invariant-loop-before g l =
    Adds (Each (λ first earlier. FindsPair first (l.place + 1) earlier l.set) 1 (take l.before l.sets))
    l.initial.found.items l.found.items
