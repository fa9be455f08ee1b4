-- What callers may cite of this crate's proofs. All the rest is private and may change.
-- what a number becomes
pub use Rattle.virtiofs_map.proofs.MappingLawLemmas.{Becomes-one, Becomes-forbidden, LeadsBack-mapped}
pub use Rattle.virtiofs_map.proofs.MappingLawLemmas.{KeepsGreatest-accepted, Covers-maps}
-- the first place of a list
pub use Rattle.virtiofs_map.proofs.ServerListLemmas.{position-Some_is, position-None_is}
-- an audit of names that begin with nothing is one of all names
pub use Rattle.virtiofs_map.proofs.audit.AuditLeastLemmas.{answers_ok}
-- the names of a list, one by one
pub use Rattle.virtiofs_map.proofs.ServerListLemmas.{IsCut, is_name, is_zero, names_step_name, names_step_none}
pub use Rattle.virtiofs_map.proofs.ServerListLemmas.{short_more, shorter_more}
-- lists that go by pairs
pub use Rattle.virtiofs_map.proofs.ZipLemmas.{AllZip-push, AllZip-one}
-- the first rule that fits a name
pub use Rattle.virtiofs_map.proofs.BeginsLemmas.{deciding-find}
-- one value, no fault beside a value, and one fault: of numbers and of specifications
pub use Rattle.virtiofs_map.proofs.NumeralLemmas.{IsNumeral-one as numeral_one_value}
pub use Rattle.virtiofs_map.proofs.SpecificationLawLemmas.{Says-one as specification_one_value}
pub use Rattle.virtiofs_map.proofs.SpecificationLawLemmas.{Says-no_fault as specification_no_fault}
pub use Rattle.virtiofs_map.proofs.SpecificationLawLemmas.{HasSpecificationFault-one as specification_one_fault}
-- of lists of specifications and of texts
pub use Rattle.virtiofs_map.proofs.MappingLawLemmas.{HasOneValue-accepted as lookup_one_value}
pub use Rattle.virtiofs_map.proofs.BuildLemmas.{Accepted-no_fault as build_no_fault}
pub use Rattle.virtiofs_map.proofs.BuildLemmas.{HasFirstFault-one as build_one_fault}
pub use Rattle.virtiofs_map.proofs.SpecificationsLemmas.{AllSay-one as texts_one_value}
pub use Rattle.virtiofs_map.proofs.SpecificationsLemmas.{AllSay-no_fault as texts_no_fault}
pub use Rattle.virtiofs_map.proofs.SpecificationsLemmas.{HasSpecsFault-one as texts_one_fault}
-- of ranges of a namespace
pub use Rattle.virtiofs_map.proofs.NamespaceLemmas.{SaysNamespace-one as namespace_one_value}
pub use Rattle.virtiofs_map.proofs.NamespaceLemmas.{SaysNamespace-no_fault as namespace_no_fault}
pub use Rattle.virtiofs_map.proofs.NamespaceLemmas.{HasNamespaceFault-one as namespace_one_fault}
-- of texts of rules
pub use Rattle.virtiofs_map.proofs.RuleTextLemmas.{one_value as rules_one_value, no_fault as rules_no_fault}
pub use Rattle.virtiofs_map.proofs.RuleTextLemmas.{one_fault as rules_one_fault}
