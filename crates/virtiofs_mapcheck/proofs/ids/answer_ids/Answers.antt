use Rattle.std.proofs.Common.{rules, inr}
use Rattle.virtiofs_mapcheck.proofs.IdsAnswerLemmas.{GivesIds-map, RefusesIds-fault}
use Rattle.virtiofs_mapcheck.proofs.ids.answer_ids.Goals as goal

pub returns-in_ok-lines_of-in-Ok : goal.returns-in_ok-lines_of-in-Ok
returns-in_ok-lines_of-in-Ok g c = search (rules, GivesIds-map)

pub returns-in_ok-specs_refusal-in-Err : goal.returns-in_ok-specs_refusal-in-Err
returns-in_ok-specs_refusal-in-Err g c =
    inr (RefusesIds-fault _ _ _ c.in-Err.ensures.refused c.in_ok-specs_refusal-in-Err.ensures)
