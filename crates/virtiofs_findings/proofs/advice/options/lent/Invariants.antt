-- the texts so far are lent
use Rattle.std.proofs.Common.{◌≡◌, map, string_bytes, take}
use Rattle.virtiofs_findings.specs.Tries.{bytes_of}
use Rattle.virtiofs_findings.proofs.advice.options.lent.Given as goal

abbrev pub invariant-loop-text : goal.invariant-loop-text
invariant-loop-text g l = bytes_of l.all.items ≡ map string_bytes (take l.text-index l.texts)
