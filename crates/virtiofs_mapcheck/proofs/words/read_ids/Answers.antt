use Rattle.std.proofs.Common.{sym, arith, length, ◌≡◌}
use Rattle.std.proofs.lemmas.Bool.{eqb-true}
use Rattle.std.proofs.lemmas.List.{length-map}
use Rattle.std.proofs.lemmas.Option.{MatchOption-at_none}
use Rattle.virtiofs_mapcheck.specs.Words.{words_of}
use Rattle.virtiofs_mapcheck.proofs.WordsLemmas.{unasked, no_queries, no_ids}
use Rattle.virtiofs_mapcheck.proofs.words.read_ids.Goals as goal

pub returns-in_default : goal.returns-in_default
returns-in_default g c = no_ids _ (λ specs queries. unasked _ specs queries c.in_default.ensures)

pub returns-then-is_empty : goal.returns-then-is_empty
returns-then-is_empty g c =
    let empty : length c.in-Some.asked.now ≡ 0 = eqb-true _ _ (sym c.if-is_empty.ensures) in
    let same : length (words_of c.in-Some.asked.now) ≡ length c.in-Some.asked.now = length-map c.in-Some.asked.now _ in
    no_ids _ (λ specs queries. no_queries _ _ _ specs queries c.in-Some.ensures (λ some _. absurd (omega arith)))

pub returns-in_default-2 : goal.returns-in_default-2
returns-in_default-2 g c =
    no_ids _
    (λ specs queries. no_queries _ _ _ specs queries c.in-Some.ensures
    (λ _. MatchOption-at_none _ _ c.in_default-2.is c.in_ok-queries.ensures queries))
