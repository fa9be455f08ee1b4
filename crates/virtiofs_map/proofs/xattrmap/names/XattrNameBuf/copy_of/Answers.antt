use Rattle.virtiofs_map.proofs.AuditAddedLemmas.{name_of_bytes}
use Rattle.virtiofs_map.proofs.xattrmap.names.XattrNameBuf.copy_of.Goals as goal

pub returns-clause-is_name : goal.returns-clause-is_name
returns-clause-is_name g c = name_of_bytes c.args.bytes.now c.requires (λ k. (c.type_inv.bytes k).fits)
