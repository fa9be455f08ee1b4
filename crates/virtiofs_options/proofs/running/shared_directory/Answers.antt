use Rattle.std.proofs.Common.{arith}
use Rattle.virtiofs_options.proofs.running.shared_directory.Goals as goal

pub returns-clause-read : goal.returns-clause-read
returns-clause-read c = grind arith
