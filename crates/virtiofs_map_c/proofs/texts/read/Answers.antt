use Rattle.std.proofs.Common.{Some, rules}
use Rattle.std.specs.Str.{chars}
use Rattle.std.specs.Str.Parse.{error_kind}
use Rattle.std.specs.Prelude.{string_bytes}
use Rattle.core.specs.declared.str.parse.IntErrorKind.TheVariants.{Empty}
use Rattle.virtiofs_map.specs.SpecificationText.{InvalidPrefix, InvalidLength, InvalidValue}
use Rattle.virtiofs_map_c.specs.Texts.{NotUtf8}
use Rattle.virtiofs_map_c.proofs.TextsLemmas.{text_refused, unquoted}
use Rattle.virtiofs_map_c.proofs.texts.read.Goals as goal

pub returns-in-Err-clause-refused : goal.returns-in-Err-clause-refused
returns-in-Err-clause-refused c =
    (Some NotUtf8, search rules, record { kind = Empty; explained = tt; numbers = c.at.ensures; bytes = unquoted _ })

pub returns-in-Err-InvalidPrefix-clause-refused : goal.returns-in-Err-InvalidPrefix-clause-refused
returns-in-Err-InvalidPrefix-clause-refused c =
    text_refused _ _ _ _ _ _ _ _ (InvalidPrefix (chars (string_bytes c.in-Err-InvalidPrefix.word))) Empty
    c.in-Ok.ensures.cases c.in-Err-InvalidPrefix.ensures.refused (search rules) tt (search rules) (search rules)

pub returns-in-Err-InvalidLength-clause-refused : goal.returns-in-Err-InvalidLength-clause-refused
returns-in-Err-InvalidLength-clause-refused c =
    text_refused _ _ _ _ _ _ _ _ (InvalidLength c.in-Err-InvalidLength.expected c.in-Err-InvalidLength.seen) Empty
    c.in-Ok.ensures.cases c.in-Err-InvalidLength.ensures.refused (search rules) tt (search rules) (unquoted _)

pub returns-in-Err-InvalidValue-clause-refused : goal.returns-in-Err-InvalidValue-clause-refused
returns-in-Err-InvalidValue-clause-refused c =
    text_refused _ _ _ _ _ _ _ _ (InvalidValue (chars (string_bytes c.in-Err-InvalidValue.value)))
    (error_kind c.in-Err-InvalidValue.error) c.in-Ok.ensures.cases
    c.in-Err-InvalidValue.ensures.refused (search rules) (search rules) (search rules) (search rules)
