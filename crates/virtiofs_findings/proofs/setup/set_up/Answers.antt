use Rattle.std.proofs.Common.{refl, arith, append_assoc}
use Rattle.virtiofs_findings.proofs.setup.set_up.Goals as goal

pub returns-clause-sets_up : goal.returns-clause-sets_up
returns-clause-sets_up g c = record {
  users = c.in_ok-users.ensures.read;
  groups = c.in_ok-groups.ensures.read;
  names = c.in_ok-names.ensures.read;
  passes = c.passes.ensures;
  acl = refl;
  process = c.process_of.ensures;
  refused = c.acl_refused.ensures;
  untranslated = c.acl_untranslated.ensures;
  starts = c.no_start_of.ensures;
}

pub returns-clause-says : goal.returns-clause-says
returns-clause-says g c = grind (arith, append_assoc)
