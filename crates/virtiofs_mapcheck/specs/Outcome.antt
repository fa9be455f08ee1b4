-- How an answer ends: its outcome and its whole text.
use Rattle.std.specs.Prelude.{◌≡◌, ℕ, List, ◌++◌, codes}
use Rattle.virtiofs_output.specs.Written.{line}
use Rattle.virtiofs_output.specs.declared.outcome.Answered.{Answered}
use Rattle.virtiofs_output.specs.declared.outcome.Answered.TheVariants.{Given, Refused}

-- the line of a refusal
abbrev pub refusal : List ℕ → List ℕ
refusal why = line (codes "refused: " ++ why)

-- the answer is given, and its text is that line
abbrev pub IsGiven : List ℕ → Answered → List ℕ → Type 0
IsGiven said answered text = (answered ≡ Given) × (text ≡ line said)

-- the answer is a refusal, and its text is the line that says why
abbrev pub IsRefused : List ℕ → Answered → List ℕ → Type 0
IsRefused why answered text = (answered ≡ Refused) × (text ≡ refusal why)

-- these answers are one outcome alone, with one text
abbrev pub AreOne : (Answered → List ℕ → Type 0) → Type 0
AreOne Answers =
    (answered other : Answered) (text another : List ℕ)
    → Answers answered text → Answers other another → (answered ≡ other) × (text ≡ another)
