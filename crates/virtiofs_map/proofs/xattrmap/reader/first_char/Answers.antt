use Rattle.std.proofs.Common.{sym, ◌∙◌}
use Rattle.std.proofs.lemmas.Str.{chars_past_char}
use Rattle.virtiofs_map.proofs.xattrmap.reader.first_char.Goals as goal

pub returns-clause-found : goal.returns-clause-found
returns-clause-found c =
    rw c.as_str.ensures
    (chars_past_char _ _ _ c.utf8.text (sym c.chars-rest.ensures.rest ∙ c.in_ok-first.ensures.steps.0))
