-- What holds of all names has one answer under a text of rules.
use Rattle.std.proofs.Common.{rules, arith, ◌≡◌, ◌≢◌, ℕ, List, codes, Ordering, Less, Equal, nat_cmp, is_eq, inl, inr}
use Rattle.std.proofs.Common.{sym, ap, ◌∙◌, Result, IfOk, String, string_bytes}
use Rattle.std.specs.Cmp.Lexicographic.{slice_cmp}
use Rattle.std.specs.Ordering.{ordering_reverse}
use Rattle.std.specs.Str.{chars}
use Rattle.std.proofs.lemmas.Cmp.{nat_list_cmp_total}
use Rattle.std.proofs.lemmas.Map.Text.{is_eq-slice_cmp}
use Rattle.std.proofs.lemmas.Slice.Eq.{bytes_eq-Decides}
use Rattle.virtiofs_map.specs.Audit.{IsBefore, IsLeast, AnswersLeast, IsSeen}
use Rattle.virtiofs_map.specs.declared.audit.answer.Audit.{Audit}
use Rattle.virtiofs_map.specs.Rule.{MappingRule}
use Rattle.virtiofs_map.specs.RuleText.{SaysRules}
use Rattle.virtiofs_mapcheck.specs.AuditsAnswer.{SaysLeast, SaysTerminated, AnswersTerminated, AnswersAudit}
use Rattle.virtiofs_mapcheck.specs.AuditsAnswer.{AnswersApart}
use Rattle.virtiofs_mapcheck.specs.AuditsParts.{audit_text}
use Rattle.virtiofs_mapcheck.specs.Outcome.{AreOne}
use Rattle.virtiofs_mapcheck.specs.RulesAnswer.{WithRules}
use Rattle.virtiofs_output.specs.Written.{line}
use Rattle.virtiofs_output.specs.declared.outcome.Answered.{Answered}
use Rattle.virtiofs_output.specs.declared.outcome.Answered.TheVariants.{Given}
use Rattle.virtiofs_mapcheck.proofs.RulesAnswerLemmas.{WithRules-one}

-- what an audit answers is what is said of it
pub SaysLeast-audit : {A : Type 0} (bad : List ℕ → Type 0) (audit : Audit A) (text : List ℕ) → AnswersLeast bad audit
    → text ≡ line (audit_text audit) → SaysLeast bad Given text
SaysLeast-audit bad audit text none is = search rules

-- the rules of the first text were read, and what they say beside the second was answered
pub says_apart : {A E : Type 0} (r : Result (Answered × String A) E) (first second : List ℕ) (rules : List MappingRule)
    → SaysRules (chars first) rules
    → IfOk r
    (λ p. WithRules (codes "second: ") second (λ others. SaysLeast (IsSeen rules others)) p.0 (string_bytes p.1))
    → IfOk r (λ p. AnswersApart first second p.0 (string_bytes p.1))
says_apart r first second rules says answered = grind arith

-- ---- one least name

neither_less : (o p : Ordering) → o ≡ ordering_reverse p → o ≢ Less → p ≢ Less → ◌≡◌ {A = Ordering} o Equal
neither_less o p flipped not_less not_more = search rules

-- names of which none comes before the other are one
same_place : (name other : List ℕ) → ¬ IsBefore name other → ¬ IsBefore other name → name ≡ other
same_place name other not_before not_after =
    let equal =
    neither_less (slice_cmp nat_cmp name other) (slice_cmp nat_cmp other name)
    (nat_list_cmp_total.antisymm name other) not_before not_after in
    (bytes_eq-Decides name other).0 (sym (is_eq-slice_cmp name other) ∙ ap is_eq equal)

IsLeast-one : (bad : List ℕ → Type 0) (name other : List ℕ) → IsLeast bad name → IsLeast bad other → name ≡ other
IsLeast-one bad name other first second = search (rules, same_place)

SaysLeast-one : (bad : List ℕ → Type 0) → AreOne (SaysLeast bad)
SaysLeast-one bad answered other text another (inl (none, one)) (inl (never, two)) = search rules
SaysLeast-one bad answered other text another (inl (none, one)) (inr (name, least, two)) = search rules
SaysLeast-one bad answered other text another (inr (name, least, one)) (inl (none, two)) = search rules
SaysLeast-one bad answered other text another (inr (name, least, one)) (inr (found, such, two)) =
    let same = IsLeast-one bad name found least such in (cc, cc)

SaysTerminated-one : (rules : List MappingRule) → AreOne (SaysTerminated rules)
SaysTerminated-one rules answered other text another h5 h6 = grind arith

-- ---- one answer

pub AnswersTerminated-one : (said : List ℕ) → AreOne (AnswersTerminated said)
AnswersTerminated-one said = search (rules, WithRules-one, SaysTerminated-one)

pub AnswersAudit-one : (said : List ℕ) → AreOne (AnswersAudit said)
AnswersAudit-one said = search (rules, WithRules-one, SaysLeast-one)

pub AnswersApart-one : (first second : List ℕ) → AreOne (AnswersApart first second)
AnswersApart-one first second = search (rules, WithRules-one, SaysLeast-one)
