use Rattle.std.proofs.Common.{◌≡◌, true, false, List, ◌++◌, ℕ, sym, ◌∙◌, rules}
use Rattle.std.proofs.lemmas.Bool.{cases_lt, false≢true}
use Rattle.virtiofs_map.specs.Names.{begins}
use Rattle.virtiofs_map.proofs.AuditAlikeLemmas.{shorter_begins}
use Rattle.virtiofs_map.proofs.BeginsLemmas.{begins-append}
use Rattle.virtiofs_map.proofs.audit.question.Question.may_begin_with.Goals as goal

-- where neither of the two begins the other, no name begins with both
not_both : (beginning bytes rest : List ℕ) → begins beginning bytes ≡ false → begins bytes beginning ≡ false
    → begins beginning (bytes ++ rest) ≡ true → ⊥
not_both beginning bytes rest fails others both =
    search (rules, cases_lt, false≢true, shorter_begins, begins-append)

pub returns : goal.returns
returns c = λ fails rules others rest is.
    not_both c.args.self.now.beginning.bytes.now c.args.bytes.now rest
    (sym c.starts_with.ensures.value ∙ c.if-starts_with.false) (sym c.starts_with-2.ensures.value ∙ fails) is.front
