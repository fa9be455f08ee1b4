use Rattle.virtiofs_map.proofs.NumeralLemmas.{numeral_complete, numeral_refused}
use Rattle.virtiofs_map.proofs.text.number.Goals as goal

pub returns-clause-complete : goal.returns-clause-complete
returns-clause-complete c = numeral_complete c.args.text.now _ c.utf8.text c.parse.ensures.value.0

pub returns-clause-refused : goal.returns-clause-refused
returns-clause-refused c = numeral_refused c.args.text.now _ c.utf8.text c.parse.ensures.value.0
