-- what is found of the rules so far was added
use Rattle.std.proofs.Common.{take}
use Rattle.std.specs.List.{range_with_len}
use Rattle.virtiofs_findings.specs.Findings.{Each}
use Rattle.virtiofs_findings.specs.Lists.{Adds}
use Rattle.virtiofs_findings.specs.NameFindings.{FindsIdleAt}
use Rattle.virtiofs_findings.proofs.names.audits.push_all_idle.Given as goal

abbrev pub invariant-loop-place : goal.invariant-loop-place
invariant-loop-place g l =
    Adds (Each (FindsIdleAt l.number l.map l.written) 1 (take l.place (range_with_len 0 l.written)))
    l.initial.found.items l.found.items
