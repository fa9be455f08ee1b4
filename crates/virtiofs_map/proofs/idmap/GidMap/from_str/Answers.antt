use Rattle.std.specs.Str.{chars}
use Rattle.virtiofs_map.proofs.NamespaceLemmas.{SaysNamespace-one, SaysNamespace-no_fault}
use Rattle.virtiofs_map.proofs.idmap.GidMap.from_str.Goals as goal

pub returns-in_err-range-clause-complete : goal.returns-in_err-range-clause-complete
returns-in_err-range-clause-complete c =
    λ inside outside count says. absurd
    (SaysNamespace-no_fault (chars c.args.text.now) inside outside count _ says c.in_err-range.ensures.refused)

pub returns-clause-complete : goal.returns-clause-complete
returns-clause-complete c =
    λ inside outside count says. SaysNamespace-one (chars c.args.text.now) _ _ _ inside outside count
    c.in_ok-range.ensures.read says
