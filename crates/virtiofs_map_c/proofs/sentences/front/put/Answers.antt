use Rattle.std.proofs.Common.{rules}
use Rattle.virtiofs_map_c.proofs.FrontLemmas.{byte-none, byte-fits}
use Rattle.virtiofs_map_c.proofs.sentences.front.put.Goals.{then-at-out, else-at-out}
use Rattle.virtiofs_map_c.proofs.sentences.front.put.Goals as goal

pub loop-byte-preserved : goal.loop-byte-preserved
loop-byte-preserved c = λ first is.
    let so_far = c.loop-byte.invariant first is in
    elim c.if-at-out.branch [
      | then-at-out w ↦ search (rules, byte-fits)
      | else-at-out w ↦ search (rules, byte-none)
    ]
