use Rattle.std.proofs.Common.{sym, ap}
use Rattle.virtiofs_map.specs.RuleParts.{rule_meant, type_of}
use Rattle.virtiofs_map.proofs.xattrmap.AddedLemmas.{its_prepend}
use Rattle.virtiofs_map.proofs.xattrmap.XattrMap.added_at.Goals as goal

pub returns-in-Prefix : goal.returns-in-Prefix
returns-in-Prefix g c =
    its_prepend c.args.self.now c.args.place (rule_meant c.in-Some.rule) (sym c.in-Some.ensures.here)
    (ap type_of c.in-Prefix.is) (c.decides_on.ensures.names.0 c.if-decides_on.true)
