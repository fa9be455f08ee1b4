use Rattle.std.proofs.Common.{arith, rules}
use Rattle.virtiofs_options.proofs.guest.Guest.take_parts.Goals as goal

pub returns-clause-takes : goal.returns-clause-takes
returns-clause-takes g c = record {
  older = c.in_ok-older.older.items;
  newer = c.take_all.new.self;
  are_older = search rules;
  of_newer = search rules;
  of_older = grind arith;
}
