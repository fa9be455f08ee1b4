use Rattle.virtiofs_map.specs.Audit.{HasFault}
use Rattle.virtiofs_map_c.proofs.NamesLemmas.{audit_told}
use Rattle.virtiofs_map_c.proofs.names.ask_all.Goals as goal

pub returns-clause-answer : goal.returns-clause-answer
returns-clause-answer c = λ rules others map other.
    audit_told (HasFault c.args.fault rules others) c.ask.result _ _ _ _ _
    (c.ask.ensures rules others (c.in-Some.ensures.map rules (c.all_of.ensures.map rules map))
    (c.in-Some-of.ensures.map others (c.all_of-2.ensures.map others other)))
    c.tell.ensures

pub returns-in_default-of-clause-answer : goal.returns-in_default-of-clause-answer
returns-in_default-of-clause-answer c = λ rules others map other.
    absurd (c.in_default-of.ensures.map others (c.all_of-2.ensures.map others other))
