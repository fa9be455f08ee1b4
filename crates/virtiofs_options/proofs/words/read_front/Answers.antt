use Rattle.std.proofs.Common.{rules}
use Rattle.virtiofs_options.proofs.words.read_front.Goals as goal

pub returns-clause-read : goal.returns-clause-read
returns-clause-read c = (
  c.in_ok-parts.parts.items,
  c.in_ok-parts.ensures.read,
  search rules,
  search rules,
  search rules,
  search rules,
  search rules,
  search rules,
  (c.new-guest.result, c.new-guest.ensures, search rules),
)
