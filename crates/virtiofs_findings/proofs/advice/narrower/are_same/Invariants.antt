-- those so far are the same
use Rattle.std.proofs.Common.{◌≡◌, take}
use Rattle.virtiofs_findings.proofs.advice.narrower.are_same.Given as goal

abbrev pub invariant-loop-place : goal.invariant-loop-place
invariant-loop-place l = take l.place l.one ≡ take l.place l.other
