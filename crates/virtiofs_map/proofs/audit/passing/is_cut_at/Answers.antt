use Rattle.std.proofs.Common.{◌≡◌, sym, ap, ◌∙◌, length}
use Rattle.std.proofs.lemmas.Bool.{eqb-true, eq-eqb}
use Rattle.virtiofs_map.specs.AuditParts.{CutsAt}
use Rattle.virtiofs_map.proofs.audit.AuditPassLemmas.{never}
use Rattle.virtiofs_map.proofs.audit.passing.is_cut_at.Goals as goal

pub returns-in_default : goal.returns-in_default
returns-in_default c = λ rules is.
    never (CutsAt rules c.args.host.now c.args.at) (λ (cut, cuts, long). let none = c.in_default.ensures rules is in cc)

pub returns : goal.returns
returns c = λ rules is.
    let found = c.in-Some.ensures rules is in (
      λ yes. (c.in-Some.cut.now, found, eqb-true _ _ yes),
      λ (cut, cuts, long). eq-eqb _ _ (let same : c.in-Some.cut.now ≡ cut = (let both = sym found ∙ cuts in cc) in
          ap length same ∙ long),
    )
