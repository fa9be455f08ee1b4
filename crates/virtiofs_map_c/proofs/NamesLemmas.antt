-- What is told of names: the codes of decisions, lists, and what audits find.
use Rattle.std.proofs.Common.{ℕ, Bool, List, [], Option, IfOk, MatchResult, Result, arith}
use Rattle.std.proofs.Common.{rules}
use Rattle.std.proofs.lemmas.Bool.{cases_lt}
use Rattle.std.specs.Global.{Global}
use Rattle.virtiofs_map.specs.Audit.{AnswersLeast, Within}
use Rattle.virtiofs_map.specs.declared.audit.answer.Audit.{Audit}
use Rattle.virtiofs_map.specs.NamesImage.{WritesList}
use Rattle.virtiofs_map.specs.declared.xattrmap.image.Decision.{Decision}
use Rattle.virtiofs_map_c.specs.Faults.{ok, no_memory}
use Rattle.virtiofs_map_c.specs.Names.{IsClientCode, TellsDecision, TellsFound, TellsLeast, TellsNo, TellsServer}
use Rattle.virtiofs_map.specs.declared.xattrmap.image.ListWritten.TheVariants as lists

-- ---- the codes of names

pub decision_code : (decision : Decision) (name old : List ℕ) (code len : ℕ) (new : List ℕ)
    → TellsDecision decision name old code len new → IsClientCode code
decision_code decision name old code len new tells = grind (arith, cases_lt)

-- ---- lists

-- a list that was written
pub list_told : (answer : Option (List ℕ)) (old : List ℕ) (count : ℕ) (new : List ℕ)
    → WritesList answer old new (lists.Written count) → TellsServer answer old ok count new
list_told answer old count new (list, is, same, now) = search rules

-- ---- audits

-- all names begin with no bytes
of_all : {A : Type 0} (bad : List ℕ → Type 0) (audit : Audit A) → AnswersLeast (Within [] bad) audit
    → AnswersLeast bad audit
of_all bad audit none = grind arith

-- what an audit found is the least name that is bad
pub audit_told : {E : Type 0} (bad : List ℕ → Type 0) (found : Result (Audit Global) E) (old : List ℕ) (code : ℕ)
    (all : Bool) (len : ℕ) (new : List ℕ)
    → IfOk found (AnswersLeast (Within [] bad))
    → MatchResult found (λ audit. TellsFound audit old code all len new) (λ _. TellsNo no_memory old code all len new)
    → TellsLeast bad old code all len new
audit_told bad found old code all len new least tells = grind (arith, of_all)
