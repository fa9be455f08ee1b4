-- the bytes so far were written
use Rattle.std.proofs.Common.{take}
use Rattle.std.specs.Fmt.{HasWritten, IsPlainFormatter}
use Rattle.virtiofs_output.specs.Written.{written}
use Rattle.virtiofs_output.proofs.written.WrittenDisplay.fmt.Given as goal

abbrev pub invariant-loop-byte : goal.invariant-loop-byte
invariant-loop-byte g l =
    IsPlainFormatter l.initial.f
    → HasWritten g.W.Write.write_str_gives l.initial.f (written (take l.byte-index l.self.0.now)) l.f
