-- what is found of the guests so far was added
use Rattle.std.proofs.Common.{take}
use Rattle.virtiofs_findings.specs.Findings.{Each}
use Rattle.virtiofs_findings.specs.Lists.{Adds}
use Rattle.virtiofs_findings.specs.Report.{FindsGuest}
use Rattle.virtiofs_findings.proofs.audit.push_guests.Given as goal

abbrev pub invariant-loop-place : goal.invariant-loop-place
invariant-loop-place g l =
    Adds (Each FindsGuest 1 (take l.place l.sets)) l.initial.found.items l.found.items
