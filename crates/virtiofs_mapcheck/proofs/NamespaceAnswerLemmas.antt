-- A text of a namespace's range has one answer.
use Rattle.std.proofs.Common.{rules, ℕ, List, inl, inr}
use Rattle.std.specs.Str.{chars}
use Rattle.virtiofs_map.proofs.ForCallers.{namespace_one_value, namespace_no_fault, namespace_one_fault}
use Rattle.virtiofs_mapcheck.specs.NamespaceAnswer.{AnswersNamespace}
use Rattle.virtiofs_mapcheck.specs.Outcome.{AreOne}

pub AnswersNamespace-one : (said : List ℕ) → AreOne (AnswersNamespace said)
AnswersNamespace-one said answered other text another (inl (a, b, c, says, one)) (inl (x, y, z, told, two)) =
    let same = namespace_one_value (chars said) a b c x y z says told in (cc, cc)
AnswersNamespace-one said answered other text another (inl (a, b, c, says, one)) (inr (fault, has, two)) =
    absurd (namespace_no_fault (chars said) a b c fault says has)
AnswersNamespace-one said answered other text another (inr (fault, has, one)) (inl (a, b, c, says, two)) =
    absurd (namespace_no_fault (chars said) a b c fault says has)
AnswersNamespace-one said answered other text another (inr one) (inr two) = search (rules, namespace_one_fault)
