use Rattle.std.proofs.Common.{◌∙◌, rules, tests}
use Rattle.std.proofs.lemmas.Iterator.{YieldsList-from_slice}
use Rattle.std.proofs.lemmas.Iterator.Search.{find_from_yields_List}
use Rattle.virtiofs_options.specs.GuestOptions.{is_older_with}
use Rattle.virtiofs_options.proofs.older.older_of.Goals as goal

pub returns : goal.returns
returns c =
    c.copied.ensures
    ∙ find_from_yields_List (λ it. is_older_with it.takes c.args.text.now it.name.now) _ _ c.find.result c.find.ensures.ran
    (YieldsList-from_slice c.args.options.older.now (cc)) (λ x b q k. search (rules, tests))
