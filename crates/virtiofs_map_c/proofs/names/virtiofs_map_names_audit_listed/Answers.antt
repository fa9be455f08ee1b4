use Rattle.virtiofs_map_c.proofs.names.virtiofs_map_names_audit_listed.Goals as goal

pub returns-clause-answer : goal.returns-clause-answer
returns-clause-answer c = λ rules map. c.ask_all.ensures.answer rules rules map map
