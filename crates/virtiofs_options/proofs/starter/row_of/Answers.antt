use Rattle.std.proofs.Common.{◌∙◌, rules, tests}
use Rattle.std.proofs.lemmas.Iterator.{YieldsList-from_slice}
use Rattle.std.proofs.lemmas.Iterator.Search.{find_from_yields_List}
use Rattle.virtiofs_options.specs.Starters.{speaks}
use Rattle.virtiofs_options.proofs.starter.row_of.Goals as goal

pub returns : goal.returns
returns c =
    c.copied.ensures
    ∙ find_from_yields_List (λ row. speaks row c.args.words.now) _ _ c.find.result c.find.ensures.ran
    (YieldsList-from_slice c.args.options.starters.now (cc)) (λ x b q k. search (rules, tests))
