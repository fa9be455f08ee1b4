use Rattle.std.proofs.Common.{◌≤◌, length, arith}
use Rattle.virtiofs_map.specs.Image.{image_length}
use Rattle.virtiofs_map_c.proofs.WholesLemmas.{taken_words}
use Rattle.virtiofs_map_c.proofs.ids.make.Goals as goal

pub returns-clause-made : goal.returns-clause-made
returns-clause-made c = λ _.
    let len = c.in-Ok.ensures.len in
    let fits : image_length c.args.list.now ≤ length c.args.words.now = omega (arith, len, c.if-words-len.false) in
    record {
      accepted = c.in-Ok.ensures.accepted;
      length_told = len;
      fits = λ _. (
        c.none-2.ensures.code,
        rw len (taken_words _ _ (c.in-Ok.ensures.written.image fits)),
        rw len (c.in-Ok.ensures.written.rest fits),
      );
      does_not_fit = λ short. absurd (omega (arith, short, fits));
    }
