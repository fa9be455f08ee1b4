use Rattle.virtiofs_map_c.specs.Replies.{Goes}
use Rattle.virtiofs_map_c.proofs.sentences.escaped.put_escaped.Given as goal

-- what was written so far is one text
abbrev pub invariant-loop-chunk : goal.invariant-loop-chunk
invariant-loop-chunk l = Goes l.fn.len l.fn.out l.len l.out

abbrev pub invariant-loop-character : goal.invariant-loop-character
invariant-loop-character l = Goes l.fn.len l.fn.out l.len l.out
