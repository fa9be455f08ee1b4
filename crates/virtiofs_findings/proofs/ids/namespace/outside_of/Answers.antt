use Rattle.std.proofs.Common.{◌∙◌, ap, sym, Some, ◌+◌, ◌-◌}
use Rattle.std.specs.Option.{option_map}
use Rattle.virtiofs_findings.proofs.ids.namespace.outside_of.Goals as goal

pub returns-in-Some : goal.returns-in-Some
returns-in-Some c =
    ap Some c.moved.ensures
    ∙ ap (option_map (λ range. range.outside_uid + (c.args.id - range.inside_uid)))
    (sym (ap (option_map (λ it. it.now)) c.in-Some.is) ∙ c.first_with.ensures)

pub returns-in-None : goal.returns-in-None
returns-in-None c =
    ap (option_map (λ range. range.outside_uid + (c.args.id - range.inside_uid)))
    (sym (ap (option_map (λ it. it.now)) c.in-None.is) ∙ c.first_with.ensures)
