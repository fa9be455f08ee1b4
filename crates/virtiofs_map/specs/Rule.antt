-- A rule of a map, as contracts see it.
use Rattle.std.specs.Prelude.{◌≢◌, ℕ, Bool, List, All, ◌==◌, if◌then◌else◌}
use Rattle.std.specs.Ordering.{on, eq_of_both}
use lib.Pointwise.{pointwise}

-- what a rule does with the names that it decides
pub data RuleType : Type 0 where
  Prefix : RuleType
  Okay : RuleType
  Bad : RuleType
  Unsupported : RuleType

-- What a rule does, whether it acts on the client's side and on the server's, and what names are compared with, in
-- bytes.
pub record MappingRule : Type 0 where
  pub kind : RuleType
  pub client : Bool
  pub server : Bool
  pub key : List ℕ
  pub prepend : List ℕ

-- neither pattern of the rule holds a zero, which no name has
pub record HasNoZero (rule : MappingRule) : Type 0 where
  pub in_key : All (λ byte. byte ≢ 0) rule.key
  pub in_prepend : All (λ byte. byte ≢ 0) rule.prepend

-- ---- equality, as a test

-- a number for each type
abbrev pub type_number : RuleType → ℕ
type_number Prefix = 0
type_number Okay = 1
type_number Bad = 2
type_number Unsupported = 3

-- whether two rules are the same in each field
abbrev pub same_rule : MappingRule → MappingRule → Bool
same_rule =
    eq_of_both (on (λ r. type_number r.kind) ◌==◌)
    (eq_of_both (on (λ r. if r.client then 1 else 0) ◌==◌)
    (eq_of_both (on (λ r. if r.server then 1 else 0) ◌==◌)
    (eq_of_both (on (λ r. r.key) (pointwise ◌==◌)) (on (λ r. r.prepend) (pointwise ◌==◌)))))

-- whether two lists of rules are the same
abbrev pub same_rules : List MappingRule → List MappingRule → Bool
same_rules = pointwise same_rule
