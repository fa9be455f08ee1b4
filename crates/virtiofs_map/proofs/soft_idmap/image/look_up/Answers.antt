use Rattle.virtiofs_map.proofs.WordLemmas.{SaysIn-exact, SaysIn-leads_back}
use Rattle.virtiofs_map.proofs.soft_idmap.image.look_up.Goals as goal

pub returns-clause-says : goal.returns-clause-says
returns-clause-says c = λ specs image.
    c.look_up.ensures.says specs _ (rw (c.ranges-2.ensures, c.in-Some.ensures.words) (image.ranges c.args.direction))

pub returns-clause-exact : goal.returns-clause-exact
returns-clause-exact c = λ specs value image becomes.
    SaysIn-exact specs _ _ value _ image.accepted (returns-clause-says c specs image) becomes

pub returns-clause-leads_back : goal.returns-clause-leads_back
returns-clause-leads_back c = λ specs image mapped.
    SaysIn-leads_back specs _ _ _ image.accepted mapped (returns-clause-says c specs image)
