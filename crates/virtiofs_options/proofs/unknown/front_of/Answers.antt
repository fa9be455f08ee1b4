use Rattle.std.proofs.lemmas.Iterator.{text_from_collect, YieldsList-from_take, YieldsList-from_chars}
use Rattle.virtiofs_options.proofs.unknown.front_of.Goals as goal

pub returns : goal.returns
returns c =
    text_from_collect c.collect.result c.collect.ensures.ran
    (YieldsList-from_take 60 (YieldsList-from_chars c.args.word.now c.utf8.word (cc)) (cc))
