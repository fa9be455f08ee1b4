-- there is a line for each refusal so far
use Rattle.std.proofs.Common.{◌≡◌, length, take}
use Rattle.virtiofs_mapaudit.proofs.answer.refusal_lines.Given as goal

abbrev pub invariant-loop-refusal : goal.invariant-loop-refusal
invariant-loop-refusal l = length l.lines.items ≡ length (take l.refusal-index l.refusals)
