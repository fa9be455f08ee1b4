-- Names that are reported, and the rules that decide none.
use Rattle.std.proofs.Common.{◌≡◌, ◌↔◌, ◌+◌, ◌++◌, ℕ, List, Bool, true, false, not, IsTrue, Result, OnOk, append-nil, arith}
use Rattle.std.specs.Bool.{then_some}
use Rattle.std.proofs.lemmas.Bool.{ltb-true}
use Rattle.virtiofs_map.specs.Audit.{Decides}
use Rattle.virtiofs_map.specs.Rule.{MappingRule}
use Rattle.virtiofs_findings.specs.Findings.{told_by}
use Rattle.virtiofs_findings.specs.Lists.{Adds}
use Rattle.virtiofs_findings.specs.NameFindings.{DecidesWritten, FindsUnless}
use Rattle.virtiofs_findings.specs.declared.finding.About.TheVariants.{Guest}
use Rattle.virtiofs_findings.specs.declared.finding.Evidence.{Evidence}
use Rattle.virtiofs_findings.specs.declared.finding.Finding.{Finding}
use Rattle.virtiofs_findings.specs.declared.finding.Kind.{Kind}

-- a finding where a test fails
pub found_unless : {A V E : Type 0} (r : Result V E) (Holds : Type 0) (test : Bool) (number : ℕ) (kind : Kind)
    (evidence : Evidence A) (before after : List (Finding A)) → IsTrue test ↔ Holds
    → OnOk r (after ≡ before ++ told_by (Guest number) kind (then_some (not test) evidence))
    → OnOk r (Adds (FindsUnless Holds number kind evidence) before after)
found_unless r Holds true number kind evidence before after holds added = grind (arith, append-nil)
found_unless r Holds false number kind evidence before after holds added = grind arith

-- ---- the rules that the last written one stands for

pub from_one : (rules : List MappingRule) (written place : ℕ) → ¬ (place + 1 ≡ written)
    → Decides rules place ↔ DecidesWritten rules written place
from_one rules written place not_last = grind (arith, ltb-true)
