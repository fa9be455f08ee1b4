use Rattle.std.proofs.Common.{refl, sym}
use Rattle.virtiofs_map.proofs.xattrmap.trie.SharedLemmas.{counted_on, lookup_counted}
use Rattle.virtiofs_map.proofs.xattrmap.WalkAnswerLemmas.{place_none, place_some}
use Rattle.virtiofs_map.proofs.xattrmap.trie.walk.first_place.Goals as goal

pub returns-then-answer-eq-NO_ANSWER-clause-first : goal.returns-then-answer-eq-NO_ANSWER-clause-first
returns-then-answer-eq-NO_ANSWER-clause-first c = λ side rules end labels bytes inside.
    sym (place_none side rules c.args.name.now c.walk-answer.result.0 inside.few
    (c.walk-answer.ensures.passes side rules end labels bytes inside).answers c.if-answer-eq-NO_ANSWER.true)

pub returns-then-answer-eq-NO_ANSWER-clause-fronts : goal.returns-then-answer-eq-NO_ANSWER-clause-fronts
returns-then-answer-eq-NO_ANSWER-clause-fronts c = λ side rules end labels bytes inside.
    counted_on c.args.steps.now c.new-counted.result c.walk-answer.new.steps c.add.new.self _ c.new-counted.ensures
    (c.walk-answer.ensures.counts side rules end labels bytes inside refl) c.add.ensures

pub returns-then-answer-eq-NO_ANSWER-clause-steps : goal.returns-then-answer-eq-NO_ANSWER-clause-steps
returns-then-answer-eq-NO_ANSWER-clause-steps c = λ side rules end labels bytes inside.
    lookup_counted side rules c.args.name.now c.args.steps.now c.add.new.self
    (returns-then-answer-eq-NO_ANSWER-clause-fronts c side rules end labels bytes inside)

pub returns-else-answer-eq-NO_ANSWER-clause-first : goal.returns-else-answer-eq-NO_ANSWER-clause-first
returns-else-answer-eq-NO_ANSWER-clause-first c = λ side rules end labels bytes inside.
    sym (place_some side rules c.args.name.now c.walk-answer.result.0 inside.few
    (c.walk-answer.ensures.passes side rules end labels bytes inside).answers c.if-answer-eq-NO_ANSWER.false)

pub returns-else-answer-eq-NO_ANSWER-clause-fronts : goal.returns-else-answer-eq-NO_ANSWER-clause-fronts
returns-else-answer-eq-NO_ANSWER-clause-fronts c = λ side rules end labels bytes inside.
    counted_on c.args.steps.now c.new-counted.result c.walk-answer.new.steps c.add.new.self _ c.new-counted.ensures
    (c.walk-answer.ensures.counts side rules end labels bytes inside refl) c.add.ensures

pub returns-else-answer-eq-NO_ANSWER-clause-steps : goal.returns-else-answer-eq-NO_ANSWER-clause-steps
returns-else-answer-eq-NO_ANSWER-clause-steps c = λ side rules end labels bytes inside.
    lookup_counted side rules c.args.name.now c.args.steps.now c.add.new.self
    (returns-else-answer-eq-NO_ANSWER-clause-fronts c side rules end labels bytes inside)
