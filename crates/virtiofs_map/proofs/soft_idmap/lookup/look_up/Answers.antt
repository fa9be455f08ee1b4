use Rattle.std.proofs.Common.{arith}
use Rattle.virtiofs_map.proofs.WordLemmas.{SaysIn-none, SaysIn-last}
use Rattle.virtiofs_map.proofs.soft_idmap.lookup.look_up.Goals as goal

pub returns-then-len-eq0-clause-says : goal.returns-then-len-eq0-clause-says
returns-then-len-eq0-clause-says c = λ specs direction has.
    SaysIn-none specs direction c.args.ranges.now c.args.n has (omega arith)

pub returns-clause-says : goal.returns-clause-says
returns-clause-says c = λ specs direction has.
    SaysIn-last specs direction c.args.ranges.now c.args.n c.last_from-last.result.index _ has
    c.last_from-last.ensures.found c.last_from-last.ensures.within c.answer_by.ensures
