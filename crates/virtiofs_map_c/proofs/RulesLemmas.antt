-- A text of rules in bytes says one list of rules at most, and has one fault at most.
use Rattle.std.proofs.Common.{◌≡◌, ℕ, List, arith, rules}
use Rattle.std.specs.Str.{chars}
use Rattle.virtiofs_map.proofs.ForCallers.{rules_no_fault, rules_one_fault}
use Rattle.virtiofs_map.specs.Rule.{MappingRule}
use Rattle.virtiofs_map_c.specs.Texts.{NotUtf8, OfText, BytesSayRules, BytesFault, HasBytesFault}

pub BytesSayRules-no_fault : (bytes : List ℕ) (rules : List MappingRule) (fault : BytesFault)
    → BytesSayRules bytes rules → ¬ HasBytesFault bytes fault
BytesSayRules-no_fault bytes rules NotUtf8 says wrong = wrong says.0
BytesSayRules-no_fault bytes rules (OfText fault) says wrong = rules_no_fault (chars bytes) rules fault says.1 wrong.1

pub HasBytesFault-one : (bytes : List ℕ) (fault other : BytesFault) → HasBytesFault bytes fault → HasBytesFault bytes other
    → fault ≡ other
HasBytesFault-one bytes fault other first second = grind (arith, rules_one_fault)
