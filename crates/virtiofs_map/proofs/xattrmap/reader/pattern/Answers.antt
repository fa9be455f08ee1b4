use Rattle.std.proofs.Common.{inr, refl, chars}
use Rattle.virtiofs_map.proofs.CutLemmas.{contains_match, field_here, lacks_text}
use Rattle.virtiofs_map.proofs.xattrmap.reader.pattern.Goals as goal

pub returns-then-contains-clause-err : goal.returns-then-contains-clause-err
returns-then-contains-clause-err g c =
    inr (
      refl,
      chars c.in-Some.field.now,
      chars c.in-Some.rest.now,
      field_here _ _ _ _ c.in-Some.ensures.whole c.in-Some.ensures.first,
      contains_match 0 c.in-Some.field.now refl c.in-Some.ensures.text.0 c.if-contains.ensures.cases,
    )

pub returns-clause-ok : goal.returns-clause-ok
returns-clause-ok g c = field_here _ _ _ _ c.in-Some.ensures.whole c.in-Some.ensures.first

pub returns-clause-no_nul : goal.returns-clause-no_nul
returns-clause-no_nul g c = lacks_text 0 c.in-Some.field.now c.in-Some.ensures.text.0 c.if-contains.ensures.cases
