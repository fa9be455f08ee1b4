use Rattle.std.proofs.Common.{refl, arith, ◌≡◌, ℕ, List, ◌++◌, Result, Contains}
use Rattle.std.specs.Prelude.{IsErrAnd, IfErr}
use Rattle.std.specs.Str.{chars}
use Rattle.virtiofs_findings.specs.ExplainQuestion.{SaysId, IsNoName, id_words, name_words, HasQuestionFault}
use Rattle.virtiofs_findings.specs.declared.explain.asking.QuestionFault.{QuestionFault}
use Rattle.virtiofs_findings.specs.declared.explain.asking.QuestionFault.TheVariants.{NoId, NoName}
use Rattle.virtiofs_findings.proofs.explain.asking.read_question.Goals as goal

-- what follows the word is no id
no_id : {T : Type 0} (text word value : List ℕ) (fault : QuestionFault) → Contains id_words word → text ≡ word ++ value
    → ((id : ℕ) → ¬ SaysId (chars value) id) → fault ≡ NoId → (r : Result T QuestionFault)
    → IsErrAnd r (λ it. it ≡ fault) → IfErr r (HasQuestionFault text)
no_id text word value fault within whole none is r err = grind arith

-- what follows the word is no name
no_name : {T : Type 0} (text word value : List ℕ) (fault : QuestionFault) → Contains name_words word → text ≡ word ++ value
    → IsNoName value → fault ≡ NoName → (r : Result T QuestionFault)
    → IsErrAnd r (λ it. it ≡ fault) → IfErr r (HasQuestionFault text)
no_name text word value fault within whole none is r err = grind arith

pub returns-in_err-id_of-clause-refused : goal.returns-in_err-id_of-clause-refused
returns-in_err-id_of-clause-refused c =
    no_id _ _ _ _ (0, omega arith, refl) c.in-Some.ensures c.in_err-id_of.ensures.refused
    c.in_err-id_of.ensures.fault _ c.from_residual.ensures.1

pub returns-in_err-id_of-2-clause-refused : goal.returns-in_err-id_of-2-clause-refused
returns-in_err-id_of-2-clause-refused c =
    no_id _ _ _ _ (1, omega arith, refl) c.in-Some-after.ensures c.in_err-id_of-2.ensures.refused
    c.in_err-id_of-2.ensures.fault _ c.from_residual-in_err-id_of-2.ensures.1

pub returns-in_err-id_of-3-clause-refused : goal.returns-in_err-id_of-3-clause-refused
returns-in_err-id_of-3-clause-refused c =
    no_id _ _ _ _ (2, omega arith, refl) c.in-Some-after-2.ensures c.in_err-id_of-3.ensures.refused
    c.in_err-id_of-3.ensures.fault _ c.from_residual-in_err-id_of-3.ensures.1

pub returns-in_err-id_of-4-clause-refused : goal.returns-in_err-id_of-4-clause-refused
returns-in_err-id_of-4-clause-refused c =
    no_id _ _ _ _ (3, omega arith, refl) c.in-Some-after-3.ensures c.in_err-id_of-4.ensures.refused
    c.in_err-id_of-4.ensures.fault _ c.from_residual-in_err-id_of-4.ensures.1

pub returns-in_err-name_of-clause-refused : goal.returns-in_err-name_of-clause-refused
returns-in_err-name_of-clause-refused c =
    no_name _ _ _ _ (0, omega arith, refl) c.in-Some-after-4.ensures c.in_err-name_of.ensures.refused
    c.in_err-name_of.ensures.fault _ c.from_residual-in_err-name_of.ensures.1

pub returns-in_err-name_of-2-clause-refused : goal.returns-in_err-name_of-2-clause-refused
returns-in_err-name_of-2-clause-refused c =
    no_name _ _ _ _ (1, omega arith, refl) c.in-Some-after-5.ensures c.in_err-name_of-2.ensures.refused
    c.in_err-name_of-2.ensures.fault _ c.from_residual-in_err-name_of-2.ensures.1
