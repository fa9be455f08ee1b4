use Rattle.std.proofs.Common.{arith}
use Rattle.virtiofs_map.proofs.ForCallers.{numeral_one_value}
use Rattle.virtiofs_findings.proofs.explain.asking.id_of.Goals as goal

pub returns-in_default-clause-refused : goal.returns-in_default-clause-refused
returns-in_default-clause-refused c = λ id says. c.in_default.ensures.refused id says.0

pub returns-then-id-clause-refused : goal.returns-then-id-clause-refused
returns-then-id-clause-refused c = λ id says.
    omega (
      arith,
      says.1,
      numeral_one_value _ id c.in-Ok.id says.0 c.in-Ok.ensures.read,
      c.if-id.true,
    )
