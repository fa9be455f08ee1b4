use Rattle.virtiofs_mapcheck.proofs.IdsAnswerLemmas.{unread_refused, overflow_refused, overlap_refused}
use Rattle.virtiofs_mapcheck.proofs.ids.specs_refusal.Goals as goal

pub returns-in-Spec : goal.returns-in-Spec
returns-in-Spec g c = unread_refused _ _ _ _ c.in-Spec.is c.text_refusal.ensures

pub returns-in-RangeOverflow : goal.returns-in-RangeOverflow
returns-in-RangeOverflow g c =
    overflow_refused _ _ _ _ _ _ _ c.in-Build.is c.in-RangeOverflow.is c.build_refusal.ensures

pub returns-in-Intersects : goal.returns-in-Intersects
returns-in-Intersects g c =
    overlap_refused _ _ _ _ _ _ c.in-Build.is c.in-Intersects.is c.build_refusal-in-Intersects.ensures
