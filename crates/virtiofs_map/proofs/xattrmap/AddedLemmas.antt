-- How much longer names become on the host.
use Rattle.std.proofs.Common.{◌≡◌, inr, ℕ, ◌+◌, ◌<◌, ◌≤◌, List, ◌++◌, length, Option, Some, ap, ◌∙◌, arith}
use Rattle.std.proofs.Common.{length-append, slice_get, rules}
use Rattle.std.proofs.lemmas.Bool.{cases_lt}
use Rattle.std.proofs.lemmas.Option.{slice_get_within}
use Rattle.virtiofs_map.specs.AddedParts.{IsAddedAt, IsAddedBelow}
use Rattle.virtiofs_map.specs.Audit.{DecidesOn, IsMostAdded}
use Rattle.virtiofs_map.specs.Names.{first, Passes, answer_by, client_answer}
use Rattle.virtiofs_map.specs.Rule.{Prefix, MappingRule}
use Rattle.virtiofs_map.specs.declared.xattrmap.scopes.Side.TheVariants.{Client}
use Rattle.virtiofs_map.proofs.xattrmap.DecidingLemmas.{first_at}

-- ---- one rule

-- the rule at that place answers for the names that it decides
answered : (rules : List MappingRule) (place : ℕ) (rule : MappingRule) (name : List ℕ)
    → slice_get rules place ≡ Some rule → first Client rules name ≡ Some place
    → client_answer rules name ≡ answer_by rule.kind rule.prepend name
answered rules place rule name here is = search (rules, slice_get)

pub its_prepend : (rules : List MappingRule) (place : ℕ) (rule : MappingRule) → slice_get rules place ≡ Some rule
    → rule.kind ≡ Prefix → DecidesOn Client rules place → IsAddedAt rules place (length rule.prepend)
its_prepend rules place rule here kind decides = record {
  at_most = grind (arith, length-append);
  reached = inr (record {
    name = decides.name;
    host = rule.prepend ++ decides.name;
    is_name = decides.is_name;
    passes = becomes decides.name decides.is_first;
    longer = omega (arith, length-append rule.prepend decides.name);
  });
} where
  becomes : (name : List ℕ) → first Client rules name ≡ Some place
      → client_answer rules name ≡ Passes (rule.prepend ++ name)
  becomes name is =
      answered rules place rule name here is ∙ ap (λ one. answer_by one rule.prepend name) kind

-- ---- the rules so far

pub none_so_far : (rules : List MappingRule) → IsAddedBelow rules 0 0
none_so_far rules = grind arith

pub one_more : (rules : List MappingRule) (at most added : ℕ) → IsAddedBelow rules at most → IsAddedAt rules at added
    → added ≤ most → IsAddedBelow rules (at + 1) most
one_more rules at most added below here less = grind (arith, cases_lt)

pub one_longer : (rules : List MappingRule) (at most added : ℕ) → IsAddedBelow rules at most → IsAddedAt rules at added
    → most < added → IsAddedBelow rules (at + 1) added
one_longer rules at most added below here more = grind (arith, cases_lt)

-- a name that passes has a rule
decided_by : (rules : List MappingRule) (name host : List ℕ) (at : Option ℕ) → first Client rules name ≡ at
    → client_answer rules name ≡ Passes host → (place : ℕ) × (first Client rules name ≡ Some place)
decided_by rules name host at is passes = grind (arith, slice_get)

pub all_of_them : (rules : List MappingRule) (count most : ℕ) → length rules ≤ count → IsAddedBelow rules count most
    → IsMostAdded rules most
all_of_them rules count most all below = record {
  at_most = grind (arith, decided_by, first_at, slice_get_within);
  reached = below.reached;
}
