use Rattle.std.proofs.Common.{rules}
use Rattle.std.proofs.lemmas.Iterator.Search.{any_from_yields_List}
use Rattle.std.proofs.lemmas.Iterator.Splits.{YieldsList-from_slice_split}
use Rattle.virtiofs_options.specs.Whole.{is_blank, is_known}
use Rattle.virtiofs_options.proofs.whole.holds_option.Goals as goal

pub returns : goal.returns
returns c =
    any_from_yields_List (is_known c.args.options) _ _ c.any.result c.any.ensures.ran
    (YieldsList-from_slice_split _ is_blank c.args.text.now c.split.ensures.rest c.split.ensures.done c.split.ensures.closure
    (λ x b q k. search rules))
    (λ x b q k. search rules)
