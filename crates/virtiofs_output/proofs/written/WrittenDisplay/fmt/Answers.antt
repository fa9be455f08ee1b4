use Rattle.std.proofs.Common.{refl, ap}
use Rattle.std.proofs.Output.{has_written_of_eq}
use Rattle.std.proofs.lemmas.Grind.{put_two}
use Rattle.std.proofs.lemmas.List.{take_all}
use Rattle.virtiofs_output.specs.Written.{written}
use Rattle.virtiofs_output.proofs.WrittenLemmas.{written_more}
use Rattle.virtiofs_output.proofs.written.WrittenDisplay.fmt.Goals as goal

pub loop-byte-preserved : goal.loop-byte-preserved
loop-byte-preserved g c = λ plain.
    let so_far = c.loop-byte.invariant plain in
    put_two _ _ _ _ _ _ _ so_far (c.in_ok-write_byte.ensures so_far.plain refl)
    (written_more c.args.self.now.0.now c.loop-byte.byte-index _ c.loop-byte-test.true)

pub returns-clause-writes : goal.returns-clause-writes
returns-clause-writes g c = λ plain ok.
    has_written_of_eq _ _ _ _ _
    (ap written (take_all c.loop-byte.byte-index c.args.self.now.0.now c.loop-byte-test.false))
    (c.loop-byte.invariant plain)
