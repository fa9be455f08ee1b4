use Rattle.std.proofs.Common.{arith}
use Rattle.virtiofs_options.proofs.guests.line_guest.Goals as goal

pub returns-clause-read : goal.returns-clause-read
returns-clause-read c = grind arith
