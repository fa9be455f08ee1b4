use Rattle.virtiofs_map_c.proofs.sentences.escaped.put_escaped.Goals as goal

pub loop-character-preserved : goal.loop-character-preserved
loop-character-preserved c = λ first is. c.put_character.ensures first (c.loop-character.invariant first is)
