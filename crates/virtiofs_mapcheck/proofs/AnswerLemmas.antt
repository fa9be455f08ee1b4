-- The words of the program have one answer alone.
use Rattle.std.proofs.Common.{rules, ℕ, List, inl, inr}
use Rattle.virtiofs_mapcheck.specs.Answer.{AnswersForm, HasOneAnswer}
use Rattle.virtiofs_mapcheck.specs.Outcome.{AreOne}
use Rattle.virtiofs_mapcheck.specs.Words.{Form, Ids, Namespace, Client, Server, Terminated, Audit, Apart}
use Rattle.virtiofs_mapcheck.proofs.AttributesAnswerLemmas.{AnswersClient-one, AnswersServer-one}
use Rattle.virtiofs_mapcheck.proofs.AuditsAnswerLemmas.{AnswersTerminated-one, AnswersAudit-one, AnswersApart-one}
use Rattle.virtiofs_mapcheck.proofs.FormLemmas.{HasForm-one}
use Rattle.virtiofs_mapcheck.proofs.IdsAnswerLemmas.{AnswersIds-one}
use Rattle.virtiofs_mapcheck.proofs.NamespaceAnswerLemmas.{AnswersNamespace-one}

AnswersForm-one : (form : Form) → AreOne (AnswersForm form)
AnswersForm-one (Ids texts queries) = AnswersIds-one texts queries
AnswersForm-one (Namespace text) = AnswersNamespace-one text
AnswersForm-one (Client rules name) = AnswersClient-one rules name
AnswersForm-one (Server rules names) = AnswersServer-one rules names
AnswersForm-one (Terminated rules) = AnswersTerminated-one rules
AnswersForm-one (Audit rules) = AnswersAudit-one rules
AnswersForm-one (Apart first second) = AnswersApart-one first second

pub HasOneAnswer-words : (words : List (List ℕ)) → HasOneAnswer words
HasOneAnswer-words words answered other text another (inl (form, has, one)) (inl (form', had, two)) =
    AnswersForm-one form' answered other text another (rw (HasForm-one words form form' has had) at one) two
HasOneAnswer-words words answered other text another (inl (form, has, one)) (inr (none, told, is)) =
    absurd (none form has)
HasOneAnswer-words words answered other text another (inr (none, told, is)) (inl (form, has, two)) =
    absurd (none form has)
HasOneAnswer-words words answered other text another (inr one) (inr two) = search rules
