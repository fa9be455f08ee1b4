-- What the program answers to what was asked of guests, and how it ends.
use Rattle.std.specs.Prelude.{◌≡◌, ◌≢◌, Bool, true, false, IsTrue, List, [], IfSome, Option, Some, None, length, string_bytes}
use Rattle.std.specs.Global.{Global}
use Rattle.virtiofs_findings.specs.Advice.{IsAdvice}
use Rattle.virtiofs_findings.specs.Audited.{Audits}
use Rattle.virtiofs_findings.specs.Explain.{ExplainsAll}
use Rattle.virtiofs_findings.specs.Findings.{IsFound}
use Rattle.virtiofs_findings.specs.declared.advice.Advised.{Advised}
use Rattle.virtiofs_findings.specs.declared.audit.Audited.{Audited}
use Rattle.virtiofs_findings.specs.declared.explain.Explained.{Explained}
use Rattle.virtiofs_findings.specs.declared.explain.asking.Question.{Question}
use Rattle.virtiofs_findings.specs.declared.finding.Finding.{Finding}
use Rattle.virtiofs_findings.specs.declared.finding.Kind.{Kind}
use Rattle.virtiofs_findings.specs.declared.guest.Guest.{Guest}
use Rattle.virtiofs_findings.specs.declared.refusal.Refusal.{Refusal}
use Rattle.virtiofs_mapaudit.specs.declared.answer.Answer.{Answer}
use Rattle.virtiofs_mapaudit.specs.declared.answer.Request.{Request}
use Rattle.virtiofs_output.specs.declared.outcome.Answered.{Answered}
use Rattle.virtiofs_output.specs.declared.outcome.Answered.TheVariants.{Given, Refused, WrongWords, Found}

-- the program ends so: refused where a text is, and else found where something is found that counts
abbrev pub EndsAs : List Kind → List (Refusal Global) → List (Finding Global) → Answered → Type 0
EndsAs accepted refusals found Given = (refusals ≡ []) × (¬ IsFound accepted found)
EndsAs accepted refusals found Refused = refusals ≢ []
EndsAs accepted refusals found WrongWords = ⊥
EndsAs accepted refusals found Found = (refusals ≡ []) × IsFound accepted found

-- what counts: where options alone are asked for, what is found with those that are written
abbrev pub counting : Bool → Audited Global → Option (Advised Global) → List (Finding Global)
counting true all (Some advised) = advised.findings.items
counting true all None = all.findings.items
counting false all advised = all.findings.items

-- the guests were audited, what is advised was tried, and the program ends as what was found says
pub record Reports (request : Request) (guests : List (Guest Global)) (answer : Answer) : Type 0 where
  pub all : Audited Global
  pub advised : Option (Advised Global)
  pub audits : Audits guests all
  pub advice : IfSome advised (IsAdvice request.accepted.now guests all.findings.items)
  pub none_advised : (all.refusals.items ≢ []) → advised ≡ None
  pub ends : EndsAs request.accepted.now all.refusals.items (counting request.front.mend all advised) answer.outcome
  pub quiet : IsTrue request.front.quiet → string_bytes answer.text ≡ []
  pub told : length answer.refusals.items ≡ length all.refusals.items

-- the questions were answered for each guest, and the program ends as what was refused says
pub record ReportsExplained (questions : List Question) (guests : List (Guest Global)) (answer : Answer) : Type 0 where
  pub all : Explained
  pub explains : ExplainsAll questions guests all
  pub ends : EndsAs [] all.refusals.items [] answer.outcome
  pub told : length answer.refusals.items ≡ length all.refusals.items
