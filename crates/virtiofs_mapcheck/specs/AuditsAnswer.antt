-- What the forms `terminated`, `audit` and `apart` answer.
use Rattle.std.specs.Prelude.{◌⊎◌, ℕ, List, [], ◌++◌, codes}
use Rattle.virtiofs_map.specs.Audit.{IsLeast, IsLost, IsSeen, Terminated}
use Rattle.virtiofs_map.specs.Rule.{MappingRule}
use Rattle.virtiofs_mapcheck.specs.Outcome.{IsGiven}
use Rattle.virtiofs_mapcheck.specs.RulesAnswer.{WithRules}
use Rattle.virtiofs_output.specs.Written.{written}
use Rattle.virtiofs_output.specs.declared.outcome.Answered.{Answered}

-- `yes` where no name is bad, and else `no` with the least name that is
abbrev pub SaysLeast : (List ℕ → Type 0) → Answered → List ℕ → Type 0
SaysLeast bad answered text =
    (((name : List ℕ) → ¬ bad name) × IsGiven (codes "yes") answered text)
    ⊎ ((name : List ℕ) × IsLeast bad name × IsGiven (codes "no " ++ written name) answered text)

-- whether the rules decide every name of either side
abbrev pub SaysTerminated : List MappingRule → Answered → List ℕ → Type 0
SaysTerminated rules answered text =
    (Terminated rules × IsGiven (codes "yes") answered text)
    ⊎ ((¬ Terminated rules) × IsGiven (codes "no") answered text)

-- whether the rules of a text decide every name
abbrev pub AnswersTerminated : List ℕ → Answered → List ℕ → Type 0
AnswersTerminated said = WithRules [] said SaysTerminated

-- whether each name that passes under the rules of a text is listed back
abbrev pub AnswersAudit : List ℕ → Answered → List ℕ → Type 0
AnswersAudit said = WithRules [] said (λ rules. SaysLeast (IsLost rules))

-- whether the rules of the second text hide what passes under those of the first, which is read first
abbrev pub AnswersApart : List ℕ → List ℕ → Answered → List ℕ → Type 0
AnswersApart first second =
    WithRules (codes "first: ") first
    (λ rules. WithRules (codes "second: ") second (λ others. SaysLeast (IsSeen rules others)))
