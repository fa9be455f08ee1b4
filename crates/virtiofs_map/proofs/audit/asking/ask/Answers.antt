use Rattle.virtiofs_map.proofs.audit.asking.ask.Goals as goal

pub returns : goal.returns
returns g c = λ rules others is are. c.least_bad_name.ensures.answer rules others (record { map = is; other = are })
