use Rattle.virtiofs_map_c.specs.Replies.{Goes}
use Rattle.virtiofs_map_c.proofs.sentences.front.put.Given as goal

-- what was written so far is one text
abbrev pub invariant-loop-byte : goal.invariant-loop-byte
invariant-loop-byte l = Goes l.fn.len l.fn.out l.len l.out
