-- What is known of the prepend of the rule that decides a name.
use Rattle.std.proofs.Common.{◌≡◌, ◌≢◌, ◌≤◌, ℕ, List, All, Option, Some, IsSomeAnd, length, option_and_then}
use Rattle.std.proofs.Common.{arith}
use Rattle.virtiofs_map.specs.Names.{deciding}
use Rattle.virtiofs_map.specs.Rule.{HasNoZero, MappingRule, Prefix}
use Rattle.virtiofs_map.specs.declared.xattrmap.scopes.Side.{Side}
use Rattle.virtiofs_map.specs.declared.xattrmap.scopes.Side.TheVariants.{Server}
use Rattle.virtiofs_map.proofs.AuditAddedLemmas.{added_no_zero}
use Rattle.virtiofs_map.proofs.BeginsLemmas.{deciding_length}

-- the rule that decides, of which something holds
decider : (P : MappingRule → Type 0) (found : Option MappingRule) → IsSomeAnd found P
    → (rule : MappingRule) × (found ≡ Some rule) × P rule
decider P found none = grind arith

-- a prepend holds no zero where no pattern does
pub prepend_no_zero : (side : Side) (rules : List MappingRule) (name prepend : List ℕ)
    → IsSomeAnd (deciding side rules name) (λ rule. (rule.kind ≡ Prefix) × (rule.prepend ≡ prepend))
    → All HasNoZero rules → All (λ byte. byte ≢ 0) prepend
prepend_no_zero side rules name prepend says no_zero =
    let by = decider (λ rule. (rule.kind ≡ Prefix) × (rule.prepend ≡ prepend)) (deciding side rules name) says in
    added_no_zero side rules name prepend no_zero
    (grind (arith, option_and_then))

-- a prepend is no longer than the name
pub prefix_within : (rules : List MappingRule) (name prepend : List ℕ)
    → IsSomeAnd (deciding Server rules name) (λ rule. (rule.kind ≡ Prefix) × (rule.prepend ≡ prepend))
    → length prepend ≤ length name
prefix_within rules name prepend says = grind (arith, decider, deciding_length)
