use Rattle.std.proofs.Common.{ap, codes, string_bytes}
use Rattle.std.specs.Str.{chars}
use Rattle.virtiofs_map.specs.SpecificationText.{InvalidPrefix, InvalidLength, InvalidValue, specification_fault_of}
use Rattle.virtiofs_mapcheck.specs.IdsAnswer.{specification_fault_text}
use Rattle.virtiofs_mapcheck.proofs.WrittenLemmas.{fault_pushed, field_pushed}
use Rattle.virtiofs_mapcheck.proofs.IdsAnswerLemmas.{length_pushed}
use Rattle.virtiofs_mapcheck.proofs.ids.push_fault.Goals as goal

pub returns-in_ok-push_str-in-InvalidPrefix : goal.returns-in_ok-push_str-in-InvalidPrefix
returns-in_ok-push_str-in-InvalidPrefix g c =
    fault_pushed specification_fault_text _ (InvalidPrefix (chars (string_bytes c.in-InvalidPrefix.prefix))) _ _ _
    (ap (λ e. specification_fault_of e) c.in-InvalidPrefix.is)
    (field_pushed _ _ _ _ (codes "InvalidPrefix ") _ c.in-InvalidPrefix.prefix
    c.in_ok-push_str-in-InvalidPrefix.ensures.bytes c.as_bytes.ensures.value c.push_quoted.ensures)

pub returns-in-InvalidLength : goal.returns-in-InvalidLength
returns-in-InvalidLength g c =
    fault_pushed specification_fault_text _ (InvalidLength c.in-InvalidLength.expected c.in-InvalidLength.seen) _ _ _
    (ap (λ e. specification_fault_of e) c.in-InvalidLength.is)
    (length_pushed _ _ _ _ _ c.write.ensures.bytes)

pub returns-in_ok-push_str-in-InvalidValue : goal.returns-in_ok-push_str-in-InvalidValue
returns-in_ok-push_str-in-InvalidValue g c =
    fault_pushed specification_fault_text _ (InvalidValue (chars (string_bytes c.in-InvalidValue.value))) _ _ _
    (ap (λ e. specification_fault_of e) c.in-InvalidValue.is)
    (field_pushed _ _ _ _ (codes "InvalidValue ") _ c.in-InvalidValue.value
    c.in_ok-push_str-in-InvalidValue.ensures.bytes c.as_bytes-in-InvalidValue.ensures.value
    c.push_quoted-in-InvalidValue.ensures)
