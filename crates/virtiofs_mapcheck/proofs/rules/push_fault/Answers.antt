use Rattle.std.proofs.Common.{ℕ, List, ◌++◌, refl, ap, codes, string_bytes}
use Rattle.std.specs.Str.{chars}
use Rattle.virtiofs_map.specs.RulesFault.{InvalidScope, InvalidType, IncompleteRule, NulInPattern}
use Rattle.virtiofs_mapcheck.specs.RulesAnswer.{rule_fault_text}
use Rattle.virtiofs_output.proofs.ForCallers.{word_pushed}
use Rattle.virtiofs_mapcheck.proofs.WrittenLemmas.{fault_pushed, words_pushed, field_pushed}
use Rattle.virtiofs_mapcheck.proofs.rules.push_fault.Goals as goal

pub returns-in_ok-push_str-in-InvalidScope : goal.returns-in_ok-push_str-in-InvalidScope
returns-in_ok-push_str-in-InvalidScope g c =
    fault_pushed rule_fault_text _
    (InvalidScope (chars (string_bytes c.in-InvalidScope.got)) (chars c.in-InvalidScope.expected.now)) _ _ _
    (rw c.in-InvalidScope.is refl)
    (field_pushed _ _ _ _ (codes "InvalidScope ") _ c.in-InvalidScope.got c.in_ok-push_str-in-InvalidScope.ensures.bytes
    c.as_bytes.ensures.value c.push_quoted.ensures)

pub returns-in_ok-push_str-in-InvalidType : goal.returns-in_ok-push_str-in-InvalidType
returns-in_ok-push_str-in-InvalidType g c =
    fault_pushed rule_fault_text _
    (InvalidType (chars (string_bytes c.in-InvalidType.got)) (chars c.in-InvalidType.expected.now)) _ _ _
    (rw c.in-InvalidType.is refl)
    (field_pushed _ _ _ _ (codes "InvalidType ") _ c.in-InvalidType.got c.in_ok-push_str-in-InvalidType.ensures.bytes
    c.as_bytes-in-InvalidType.ensures.value c.push_quoted-in-InvalidType.ensures)

pub returns-in-IncompleteRule : goal.returns-in-IncompleteRule
returns-in-IncompleteRule g c =
    fault_pushed rule_fault_text _ IncompleteRule _ _ _ (rw c.in-IncompleteRule.is refl)
    (word_pushed _ (string_bytes c.args.text.now) _ (codes "IncompleteRule")
    c.push_str-in-IncompleteRule.ensures.bytes)

pub returns-in_ok-push_str-in-NulInPattern : goal.returns-in_ok-push_str-in-NulInPattern
returns-in_ok-push_str-in-NulInPattern g c =
    fault_pushed rule_fault_text _ (NulInPattern c.in-NulInPattern.pattern) _ _ _ (rw c.in-NulInPattern.is refl)
    (words_pushed _ _ _ _ (codes "NulInPattern ") _ _ c.in_ok-push_str-in-NulInPattern.ensures.bytes
    c.push_str-in-NulInPattern-2.ensures.bytes
    (ap (λ (word : List ℕ). codes "NulInPattern " ++ word) c.pattern_name.ensures))
